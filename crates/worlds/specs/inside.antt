pub mod Extensions
pub mod Endings
