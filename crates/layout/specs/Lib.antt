pub mod Text
pub mod Lines
pub mod GraphText
pub mod NumberText
pub mod SubgraphText
pub mod TidyText
pub mod AssignmentText
pub mod Rewrite
