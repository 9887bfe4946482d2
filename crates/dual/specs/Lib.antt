pub mod Sets
pub mod Prices
pub mod Gap
pub mod Measure
pub mod Solve
pub mod PriceGeneral
pub mod Passed
