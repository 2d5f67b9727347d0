mod Turns
pub mod Coming
pub mod Separated
pub mod Running
pub mod Trace
pub mod Live
pub mod Job
pub mod Work
