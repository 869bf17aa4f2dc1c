pub mod Cutting
pub mod Roles
pub mod Runs
pub mod Spelling
pub mod Text
