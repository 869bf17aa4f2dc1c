pub mod Files
pub mod Damage
pub mod Examples
