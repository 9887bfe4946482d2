pub mod Optimiser
