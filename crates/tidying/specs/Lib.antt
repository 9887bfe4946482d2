-- What the theorems of tidying say.
pub mod Alike
