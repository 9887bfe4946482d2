pub mod Same
pub mod Words
