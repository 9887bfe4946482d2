pub mod Sources
pub mod Bounds
pub mod Whole
