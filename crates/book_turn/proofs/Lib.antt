pub mod Beginnings
pub mod Keeps
pub mod Turns
pub mod Calls
pub mod Gathers
pub mod Orders
