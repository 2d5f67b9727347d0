pub mod Roundings
pub mod Bounds
pub mod Sums
pub mod Leasts
pub mod Goods
pub mod Points
pub mod Priority
