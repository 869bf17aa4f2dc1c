pub mod Creating
pub mod Noted
pub mod Renaming
