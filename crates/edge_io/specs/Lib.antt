pub mod Causes
pub mod Flow
pub mod Calls
pub mod Memory
pub mod Shelves
pub mod MemShelves
pub mod Names
