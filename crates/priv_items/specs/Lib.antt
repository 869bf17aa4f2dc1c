pub mod Canonical
pub mod Escapes
pub mod Grants
pub mod LevelRefusals
pub mod Lowered
pub mod Meaning
pub mod Naming
