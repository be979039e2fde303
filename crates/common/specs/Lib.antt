pub mod Signal
pub mod Line
pub mod Reads
