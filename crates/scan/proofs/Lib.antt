pub mod Looking
pub mod Column
