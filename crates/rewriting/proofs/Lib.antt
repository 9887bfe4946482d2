pub mod Written
pub mod Pieces
pub mod Anew
pub mod Kept
pub mod Texts
