pub mod Beginnings
pub mod Commands
pub mod Fronts
pub mod Moments
pub mod Numbers
pub mod Sanity
