pub mod Accepted
pub mod Listed
pub mod Roles
pub mod Sound
pub mod Standing
