pub mod Columns
pub mod NamedWords
pub mod ReadNames
pub mod Unescaping
