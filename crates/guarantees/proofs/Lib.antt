pub mod Shown
pub mod Cases
pub mod Pairs
pub mod Places
