pub mod Forms
pub mod Lengths
pub mod Options
pub mod Plain
pub mod Values
