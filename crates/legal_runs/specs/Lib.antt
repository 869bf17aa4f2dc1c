pub mod Commands
pub mod Core
pub mod ExampleReports
pub mod ExampleRuns
pub mod Lines
pub mod Report
pub mod Rules
pub mod Sessions
