pub mod Scans
pub mod Pieces
pub mod Lined
pub mod Shapes
