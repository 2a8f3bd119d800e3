pub mod Faults
pub mod Document
pub mod Values
pub mod Lists
pub mod Kinds
