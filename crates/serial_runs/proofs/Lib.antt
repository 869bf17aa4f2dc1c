pub mod Done
pub mod Onward
pub mod Whole
pub mod Workers
