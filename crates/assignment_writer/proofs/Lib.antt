pub mod Lines
pub mod Tested
