pub mod Creating
pub mod Limiting
pub mod Renaming
pub mod Refusing
pub mod ByLists
pub mod Dropping
pub mod Granting
pub mod Revoking
