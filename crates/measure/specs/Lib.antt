pub mod Shown
pub mod Tables
