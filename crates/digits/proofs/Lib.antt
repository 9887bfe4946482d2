pub mod Over
pub mod Numbers
pub mod Signs
pub mod Parts
pub mod Appending
