pub mod Denials
pub mod FirstItems
pub mod Histories
pub mod Once
pub mod OneRefusal
