pub mod Files
pub mod Stored
pub mod Words
