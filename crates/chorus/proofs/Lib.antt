pub mod Laws
pub mod Demand1
pub mod Demand3
pub mod Counts
pub mod Three
pub mod StaysSilent
pub mod HearsBack
pub mod Narrow
