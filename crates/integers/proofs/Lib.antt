-- The laws of integers and of sums.
pub mod Order
pub mod Diff
pub mod Total
pub mod Sum
pub mod Loops
