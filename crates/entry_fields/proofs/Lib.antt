pub mod Fronts
pub mod Refused
pub mod Tests
