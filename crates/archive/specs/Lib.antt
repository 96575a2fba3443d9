pub mod Answers
pub mod Fault
pub mod Pattern
pub mod Reading
