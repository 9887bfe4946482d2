-- The laws of the stages, and that the method's end is a solution.
pub mod Start
pub mod Final
