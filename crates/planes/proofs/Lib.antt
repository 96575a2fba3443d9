pub mod Bitwise
pub mod Joined
pub mod Entire
