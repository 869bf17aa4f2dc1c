pub mod Applied
pub mod Built
pub mod Causes
pub mod Created
pub mod Renamed
pub mod Revoked
