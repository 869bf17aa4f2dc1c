pub mod Examples
pub mod Lines
pub mod LineTokens
pub mod Names
pub mod ReadLines
