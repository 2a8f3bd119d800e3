pub mod Trimming
pub mod Splitting
pub mod Counting
pub mod Cutting
pub mod Searching
