pub mod Entries
pub mod Renamed
pub mod Texts
pub mod Turns
pub mod Whole
