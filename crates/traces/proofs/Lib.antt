pub mod Instants
pub mod Turns
