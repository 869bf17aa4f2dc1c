pub mod Edges
pub mod Nodes
pub mod Orders
pub mod Paths
