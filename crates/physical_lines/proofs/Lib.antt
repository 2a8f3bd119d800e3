pub mod Heading
pub mod Lengths
