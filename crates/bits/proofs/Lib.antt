pub mod Word
pub mod Row
