pub mod Cuts
pub mod Lexemes
pub mod LinesRead
pub mod NamesAfter
pub mod Printing
pub mod Shown
pub mod ShownNames
pub mod Spelled
