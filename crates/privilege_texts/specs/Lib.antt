pub mod Rules
pub mod SpelledAgain
