pub mod Addresses
pub mod Chosen
pub mod Fitting
pub mod Steps
pub mod Ties
pub mod Totals
