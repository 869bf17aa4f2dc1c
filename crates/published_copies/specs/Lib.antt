pub mod Stages
pub mod History
pub mod Contents
pub mod Copies
pub mod Views
pub mod Awaiting
