pub mod listed
pub mod nonempty
pub mod several
