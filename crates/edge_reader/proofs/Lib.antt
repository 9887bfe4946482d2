pub mod Next
pub mod Edges
pub mod Whole
pub mod Costs
