pub mod Ending
pub mod Premises
