pub mod Answered
pub mod Exact
pub mod Lists
pub mod Loops
pub mod Theorem
pub mod Whole
