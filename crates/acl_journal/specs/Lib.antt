pub mod Journal
pub mod Refusals
pub mod Recovery
pub mod Opened
