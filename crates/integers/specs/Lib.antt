-- What the contracts speak of: the parts of an integer, and finite sums.
pub mod Integer
pub mod Sum
