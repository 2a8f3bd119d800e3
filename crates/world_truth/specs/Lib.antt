pub mod Places
pub mod Work
pub mod Answers
pub mod inside
