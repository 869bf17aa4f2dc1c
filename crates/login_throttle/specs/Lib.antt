pub mod History
pub mod Stamp
pub mod Steps
pub mod Tracking
