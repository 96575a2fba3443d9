pub mod Numbered
pub mod Saved
pub mod Tables
pub mod Text
pub mod Walk
