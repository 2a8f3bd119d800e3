pub mod Quantified
pub mod Naming
pub mod Rows
pub mod Shown
pub mod FailsAs
pub mod Spoilt
