pub mod Mixing
pub mod Indexing
pub mod Gathering
pub mod Marking
