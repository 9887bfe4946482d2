pub mod OnLine
pub mod Marks
pub mod Tested
