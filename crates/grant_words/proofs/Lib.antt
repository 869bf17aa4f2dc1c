pub mod Apart
pub mod Mapped
pub mod Numbers
pub mod Sanity
pub mod Values
