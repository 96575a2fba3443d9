pub mod LinesLeft
pub mod Passes
pub mod Planted
pub mod Table
