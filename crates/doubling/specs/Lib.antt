pub mod Doublable
