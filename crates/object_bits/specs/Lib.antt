pub mod Kept
pub mod Keys
pub mod Names
pub mod Objects
pub mod Seen
