pub mod Digests
pub mod Indexed
