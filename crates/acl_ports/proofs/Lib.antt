pub mod Crash
pub mod Moments
pub mod Undo
pub mod WriteAndSync
