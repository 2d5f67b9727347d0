pub mod Wording
pub mod Parting
