pub mod Laws
pub mod Lists
pub mod Same
pub mod Walk
