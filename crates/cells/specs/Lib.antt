pub mod Calls
pub mod Cells
pub mod Count
pub mod Fault
pub mod Front
pub mod Record
