mod RowNumbers
mod Seeing
mod Valuing
mod Listing
mod Rowing
mod Filling
mod TableOnce
mod Lining
mod Judging
mod Numbering
mod Scanning
mod Staging
mod Asking
mod WrongRows
mod MissingRows
mod PrintingTables
pub mod WordRows
