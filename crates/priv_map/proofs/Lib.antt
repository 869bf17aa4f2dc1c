pub mod Agreement
pub mod LimitLists
pub mod Masks
pub mod Needs
pub mod ReadAt
