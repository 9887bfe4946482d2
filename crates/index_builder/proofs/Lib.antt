-- The laws of building an index.
pub mod Offsets
pub mod Places
pub mod Built
