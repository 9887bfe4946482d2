pub mod OnLine
pub mod Whole
