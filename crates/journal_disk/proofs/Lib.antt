pub mod Header
pub mod Parts
pub mod Pieces
pub mod Steps
pub mod WriteAndSync
pub mod Written
