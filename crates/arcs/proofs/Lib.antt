-- The laws of the loops that list the kept edges and begin the lists of the column vertices.
pub mod Row
pub mod Rows
