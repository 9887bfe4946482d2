pub mod Shown
pub mod FromTables
