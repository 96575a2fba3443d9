pub mod Summary
pub mod Survey
pub mod Tally
