pub mod Rounding
pub mod Units
pub mod Tasks
pub mod Limits
pub mod Share
pub mod Priority
pub mod Demand
pub mod Instants
