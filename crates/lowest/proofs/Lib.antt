-- The laws of searches for the lowest item.
pub mod Scan
pub mod Found
pub mod Rows
