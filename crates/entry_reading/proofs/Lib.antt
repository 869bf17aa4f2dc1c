pub mod Faults
pub mod Fronts
pub mod Restrictions
pub mod OneByOne
pub mod Texts
pub mod Entries
pub mod Answers
