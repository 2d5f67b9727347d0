pub mod Outcomes
pub mod Playing
pub mod Beginning
pub mod Lines
pub mod Streams
pub mod Running
pub mod Arguments
