pub mod Full
pub mod Few
pub mod Placed
pub mod Sampled
pub mod Worked
