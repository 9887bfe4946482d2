pub mod Search
pub mod Walk
pub mod Entries
