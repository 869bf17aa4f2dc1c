pub mod Bits
pub mod DynamicSets
pub mod LevelLemmas
pub mod Members
pub mod Names
pub mod PrivilegeNames
