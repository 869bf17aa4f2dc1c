pub mod PrivilegeNames
pub mod PrivilegeItems
pub mod Targets
pub mod Statements
pub mod Columns
pub mod NameTokens
pub mod Sanity
