pub mod Letters
pub mod LinesRead
pub mod Naming
pub mod PrintedBack
pub mod Printing
pub mod Putting
pub mod Squaring
pub mod Wording
