pub mod Draws
pub mod Examples
pub mod Scripts
pub mod Texts
