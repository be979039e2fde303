pub mod Laws
pub mod Demand1
pub mod Counts
pub mod StaysSilent
pub mod HearsBack
pub mod Narrow
