pub mod Laws
pub mod Fits
pub mod Policies
pub mod FitLaws
