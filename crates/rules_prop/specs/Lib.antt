pub mod Propositional
pub mod Shown
pub mod inside
