pub mod TableFacts
pub mod PlaceFacts
pub mod StartFacts
pub mod ReadyFacts
