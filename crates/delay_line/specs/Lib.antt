pub mod Halves
pub mod DelayLine
