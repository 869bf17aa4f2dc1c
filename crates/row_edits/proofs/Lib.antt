pub mod Back
pub mod Comes
pub mod Limiting
pub mod Trials
