pub mod Doubled
pub mod LowerTexts
pub mod Lowered
pub mod SameAuth
