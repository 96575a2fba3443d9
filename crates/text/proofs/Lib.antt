pub mod Cuts
pub mod Digits
pub mod Trip
pub mod Writes
