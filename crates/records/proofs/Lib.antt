pub mod Beyond
pub mod Calls
