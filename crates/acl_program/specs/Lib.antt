pub mod Causes
pub mod Endings
pub mod Rehearsal
pub mod Scripts
pub mod Runs
pub mod Streams
