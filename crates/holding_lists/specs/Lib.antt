pub mod Additions
pub mod Holders
pub mod Said
