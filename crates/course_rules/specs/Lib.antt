pub mod Digits
pub mod RuleForm
pub mod ZoneForm
pub mod CivilText
pub mod Due
pub mod inside
