pub mod Carried
pub mod Examples
pub mod Keys
pub mod Lines
pub mod Listing
pub mod Rights
