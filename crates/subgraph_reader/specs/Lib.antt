pub mod OnLine
