pub mod Columns
pub mod Sets
