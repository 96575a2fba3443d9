pub mod Buffer
pub mod Cut
pub mod Number
pub mod Writer
