pub mod Finding
pub mod Firsts
pub mod Giving
pub mod Lawful
pub mod Listing
pub mod Taking
