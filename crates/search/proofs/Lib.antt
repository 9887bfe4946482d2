-- The laws of one search: where lists are found, how far a vertex is from a way out, how it grows and ends, and what the path that is flipped leaves.
pub mod Spans
pub mod Exits
pub mod Growth
pub mod Path
