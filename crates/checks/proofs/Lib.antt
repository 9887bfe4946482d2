-- The laws of the tests.
pub mod Table
pub mod Ranges
pub mod Refusals
pub mod Tests
pub mod Shown
