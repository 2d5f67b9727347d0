pub mod Multiples
pub mod Weights
pub mod Chosen
pub mod Steps
