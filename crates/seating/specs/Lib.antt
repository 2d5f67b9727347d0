pub mod Seats
pub mod Refusals
pub mod Admission
pub mod Withdrawal
pub mod Judging
pub mod Questions
