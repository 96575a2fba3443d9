pub mod Fits
pub mod Listing
pub mod Marking
pub mod Plain
pub mod View
