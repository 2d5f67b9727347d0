pub mod Laws
pub mod Meanings
pub mod Weighing
pub mod Meant
pub mod Choosing
pub mod Kinds
pub mod Steps
