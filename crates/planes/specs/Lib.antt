pub mod Bits
pub mod Planes
pub mod Whole
