pub mod Method
pub mod Tree
pub mod Front
pub mod Lists
