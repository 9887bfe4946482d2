-- What the tests yield, and what they show.
pub mod Refusing
