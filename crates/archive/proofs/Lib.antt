pub mod Accepts
pub mod Numbering
pub mod Outcomes
pub mod Places
pub mod Whole
