pub mod Numbered
pub mod SentenceFaults
pub mod ProofFaults
pub mod WorldFaults
