pub mod Fault
pub mod Line
pub mod Text
pub mod Values
