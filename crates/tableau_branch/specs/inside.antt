pub mod Weight
pub mod Index
pub mod Gathered
pub mod Marks
