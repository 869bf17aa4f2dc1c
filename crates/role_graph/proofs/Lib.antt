pub mod Bits
pub mod Search
pub mod Tables
pub mod Counts
pub mod Loops
pub mod Graphs
pub mod Puts
pub mod Orders
