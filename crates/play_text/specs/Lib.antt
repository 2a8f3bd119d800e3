pub mod Keywords
pub mod PlayLines
pub mod PlayText
pub mod PlayFaults
pub mod Laws
pub mod Readers
