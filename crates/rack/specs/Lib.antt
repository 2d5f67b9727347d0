pub mod Table
pub mod Cells
pub mod Renewed
pub mod Trials
pub mod Choices
pub mod Spots
pub mod Steps
pub mod Always
