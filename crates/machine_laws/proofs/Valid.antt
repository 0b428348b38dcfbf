-- Every event keeps the machine valid.
pub mod Settling
pub mod Tasks
pub mod WholeSteps
pub mod Frames
pub mod Events
pub mod Timer
