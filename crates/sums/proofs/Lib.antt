pub mod Totals
pub mod Covers
