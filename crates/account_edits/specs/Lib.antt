pub mod Causes
pub mod Created
pub mod Renamed
