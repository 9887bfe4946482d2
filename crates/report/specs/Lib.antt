pub mod Report
pub mod Programs
