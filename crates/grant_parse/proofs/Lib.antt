pub mod Disjoint
pub mod Disjointness
pub mod Few
pub mod Kept
pub mod Once
pub mod Places
pub mod Unique
