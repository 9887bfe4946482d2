pub mod Count
pub mod Taken
