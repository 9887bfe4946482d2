pub mod Conditions
-- The theorems of duality, over functions and over the definitions.
pub mod Core
pub mod HalfPoints
pub mod Passed
pub mod Duality
pub mod Measured
