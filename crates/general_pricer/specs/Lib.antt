pub mod SolvedWith
