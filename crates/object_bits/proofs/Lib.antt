pub mod Moves
pub mod Objects
pub mod Readings
pub mod SameKeys
pub mod SameObjects
pub mod Sets
pub mod Sums
