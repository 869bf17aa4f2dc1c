pub mod Few
pub mod Placed
pub mod Refused
pub mod SampleForms
pub mod Seen
