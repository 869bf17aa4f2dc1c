pub mod Causes
pub mod Edits
pub mod Layers
pub mod Parts
