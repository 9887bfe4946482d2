-- The laws of a flip, of the walk back, and of the lists that it keeps.
pub mod Degree
pub mod Step
pub mod Walk
pub mod Lists
pub mod Relisting
pub mod Going
