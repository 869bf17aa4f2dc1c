pub mod Flags
pub mod Options
pub mod Sanity
pub mod Secrets
pub mod Statements
