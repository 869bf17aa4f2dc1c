pub mod Given
pub mod Granted
pub mod Lists
pub mod Taken
