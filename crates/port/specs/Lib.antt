pub mod Port
pub mod Answer
