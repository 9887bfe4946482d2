-- The law of trying every subgraph, the computed test of the table, and the twelve cases.
pub mod Trying
pub mod Test
pub mod Cases
