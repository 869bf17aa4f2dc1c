pub mod Meaning
pub mod Sanity
pub mod Statements
pub mod Texts
