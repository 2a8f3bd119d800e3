pub mod Physical
pub mod Leading
