pub mod Drawing
pub mod CasesShown
pub mod LaterCites
pub mod Counting
pub mod Showing
