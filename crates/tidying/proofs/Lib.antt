-- The laws of the tidy order and of the graph in it, and of the texts that are read alike in either order.
pub mod Order
pub mod Tidied
pub mod Plans
