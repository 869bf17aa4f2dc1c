pub mod Adding
pub mod Beginnings
pub mod LimitTexts
pub mod Refusals
pub mod Script
pub mod Spelling
pub mod Texts
