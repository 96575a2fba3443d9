pub mod Accepted
pub mod Forming
pub mod Hands
pub mod Marks
pub mod Sweeps
pub mod Units
