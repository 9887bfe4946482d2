-- The laws of testing an index.
pub mod Tested
pub mod Standing
