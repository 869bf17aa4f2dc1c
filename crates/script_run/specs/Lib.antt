pub mod Calls
pub mod Denials
pub mod Forms
pub mod Lines
pub mod Seats
pub mod Told
