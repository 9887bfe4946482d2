pub mod Tested
pub mod Lent
pub mod Summed
