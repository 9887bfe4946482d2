pub mod Zeros
pub mod Writing
pub mod Lines
pub mod Subgraph
pub mod Answered
