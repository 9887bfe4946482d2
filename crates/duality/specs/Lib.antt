-- What the theorems of duality say.
pub mod Meaning
