pub mod Passing
pub mod Ranges
pub mod Passed
pub mod Told
pub mod Index
pub mod Counting
