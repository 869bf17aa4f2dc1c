pub mod Places
pub mod Numberings
pub mod Lookups
pub mod Adding
pub mod Removing
pub mod Counts
pub mod Copies
