pub mod Augment
