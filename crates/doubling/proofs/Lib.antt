pub mod Halves
pub mod Doubled
pub mod Tested
pub mod Prices
pub mod Twice
