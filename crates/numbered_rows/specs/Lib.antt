pub mod Conditions
pub mod Levels
pub mod NamedRows
pub mod Numbering
pub mod RowChanges
pub mod Steps
pub mod Tables
