pub mod Digits
pub mod Integers
