pub mod Place
pub mod Counts
pub mod Names
pub mod NameSteps
pub mod Operands
pub mod LinePlacesView
pub mod NamesView
pub mod Symbols
