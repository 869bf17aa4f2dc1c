pub mod Code
pub mod Exactness
pub mod Grammar
pub mod Reader
pub mod Spelling
