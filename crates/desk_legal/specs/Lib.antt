pub mod Prefixes
pub mod Legal
