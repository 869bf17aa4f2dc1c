pub mod Histories
pub mod Sizes
pub mod Fronts
pub mod Standing
