pub mod Classes
pub mod Lexemes
pub mod Lists
pub mod Names
pub mod Numbers
pub mod Samples
pub mod Syntax
