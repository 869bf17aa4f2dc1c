mod Cuts
mod Distinct
mod FirstLines
mod Fronts
mod Reading
mod Readings
pub mod SampleCommands
mod Sessions
