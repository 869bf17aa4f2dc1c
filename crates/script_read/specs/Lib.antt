pub mod Written
pub mod Commands
pub mod Built
pub mod Laws
