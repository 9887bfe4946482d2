-- What the laws speak of: the count over a set of vertices.
pub mod Count
