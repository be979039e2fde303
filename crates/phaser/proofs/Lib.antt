pub mod Laws
pub mod Idle
pub mod Demand1
pub mod Counts
pub mod StaysSilent
pub mod Narrow
