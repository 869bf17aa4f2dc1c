pub mod Adding
pub mod Below
pub mod Bools
pub mod Covering
pub mod Legal
pub mod Numbers
pub mod Splitting
