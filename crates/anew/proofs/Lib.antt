pub mod Put
pub mod Begun
pub mod Turn
pub mod Loops
