pub mod Lines
pub mod BlockLines
pub mod WorldText
pub mod Printed
pub mod inside
