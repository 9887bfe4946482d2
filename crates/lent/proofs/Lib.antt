pub mod Filling
pub mod Lengths
pub mod Parts
pub mod Bounded
pub mod Bipartite
