pub mod Numbers
pub mod Fronts
pub mod Blanks
pub mod Moments
pub mod Ends
pub mod Disjoint
pub mod OneOption
