pub mod Additions
pub mod RolesSaid
pub mod Entries
pub mod Readings
pub mod Sets
