pub mod Beginnings
pub mod Chains
pub mod Adding
pub mod Rules
pub mod Hearing
pub mod Pending
