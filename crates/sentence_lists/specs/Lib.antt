pub mod SentenceLines
pub mod Readers
pub mod Laws
