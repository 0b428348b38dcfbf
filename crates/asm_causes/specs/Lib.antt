pub mod Causes
pub mod Places
pub mod PlaceSteps
pub mod Refusal
pub mod Calm
pub mod Sizes
