-- The laws of terms.
pub mod Machine
pub mod Products
pub mod Steps
