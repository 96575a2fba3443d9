pub mod Fit
pub mod Gather
pub mod Settle
