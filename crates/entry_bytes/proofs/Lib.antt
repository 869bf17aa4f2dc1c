pub mod Names
pub mod Once
pub mod Parts
pub mod Places
pub mod Written
