pub mod Kept
pub mod Answered
pub mod Lent
pub mod Graphs
pub mod Texts
