pub mod Header
pub mod Leaving
pub mod Progress
pub mod Taking
