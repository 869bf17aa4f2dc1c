pub mod Bits
pub mod HeldBits
pub mod Records
pub mod Written
pub mod Clearing
