pub mod Refused
pub mod Changed
pub mod Kept
pub mod Seek
pub mod Counted
pub mod Memory
