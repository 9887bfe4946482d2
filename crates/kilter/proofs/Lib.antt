-- The laws: the count over a set of vertices, and a search that finds no end.
pub mod Count
pub mod Stuck
