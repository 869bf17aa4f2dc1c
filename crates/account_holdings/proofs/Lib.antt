pub mod BitSets
pub mod Changes
pub mod Roles
pub mod SameHoldings
