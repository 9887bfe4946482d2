-- The laws of a search: what tests say, what a passed graph gives, how edges lead, one more edge looked at, the edges left out, the next vertex settled, the prices moved, what the walk back
-- leaves; and laws of the lists and of the index's places.
pub mod Tests
pub mod Solvable
pub mod Leading
pub mod Grow
pub mod Settle
pub mod Keep
pub mod Range
pub mod Left
pub mod Finish
pub mod End
pub mod Lists
pub mod Places
