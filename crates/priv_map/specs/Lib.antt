pub mod Copies
pub mod Denials
pub mod MapState
pub mod Readings
pub mod Restricted
