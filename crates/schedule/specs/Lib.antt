pub mod Places
pub mod Synchronous
pub mod Sufficient
pub mod Necessary
pub mod Orders
pub mod Published
pub mod Removal
pub mod Examples
