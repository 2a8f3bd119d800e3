pub mod Going
pub mod Once
