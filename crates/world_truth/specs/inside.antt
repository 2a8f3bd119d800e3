pub mod Bound
pub mod BoardLines
pub mod Digits
pub mod Referents
pub mod Relations
pub mod Tables
