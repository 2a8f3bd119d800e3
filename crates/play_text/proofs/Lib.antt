pub mod Wording
pub mod Leading
pub mod Saying
pub mod Numbering
pub mod Worlds
pub mod Once
pub mod Answering
pub mod Reading
