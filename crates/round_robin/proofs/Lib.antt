pub mod Fronts
pub mod TurnFacts
