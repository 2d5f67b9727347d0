pub mod Reading
pub mod Losing
pub mod Replying
pub mod Setups
