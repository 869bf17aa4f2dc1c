pub mod Held
pub mod Read
