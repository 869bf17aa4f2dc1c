pub mod Checks
pub mod Rights
