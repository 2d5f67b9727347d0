pub mod NoCalls
pub mod Names
pub mod Fields
pub mod FieldLaws
pub mod Pairs
pub mod Calls
pub mod Answers
pub mod Lines
