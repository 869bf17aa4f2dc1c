pub mod Columns
pub mod Entries
pub mod Limits
pub mod Lists
pub mod Privileges
pub mod Requests
pub mod Statements
pub mod Targets
