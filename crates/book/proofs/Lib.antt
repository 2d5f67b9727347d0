pub mod Entering
pub mod Leaving
pub mod Moments
pub mod Following
pub mod Single
