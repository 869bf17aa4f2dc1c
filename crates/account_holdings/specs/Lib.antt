pub mod Bits
pub mod Globals
pub mod Holdings
pub mod Rooms
