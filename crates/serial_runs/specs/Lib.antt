pub mod Parts
pub mod Serial
