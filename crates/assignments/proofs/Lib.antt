pub mod Fits
pub mod Written
pub mod Back
pub mod Passes
