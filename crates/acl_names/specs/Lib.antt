pub mod AuthId
pub mod Limits
pub mod Name
pub mod Quoted
pub mod Text
pub mod Verifiers
