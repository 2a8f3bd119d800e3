pub mod Failing
pub mod Judged
pub mod Laws
pub mod Readers
