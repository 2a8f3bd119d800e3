pub mod Cutting
pub mod Ascii
pub mod Calendars
pub mod Offsets
pub mod Instants
