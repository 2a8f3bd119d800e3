pub mod Assigning
pub mod Bearing
pub mod Ending
pub mod Marking
pub mod Scaling
