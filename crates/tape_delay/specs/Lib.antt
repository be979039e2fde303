pub mod TapeDelay
