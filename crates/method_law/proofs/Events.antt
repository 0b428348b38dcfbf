-- An event of the deferred run, and the event of the direct run that goes with it.
pub mod Choices
pub mod Twins
pub mod Acts
pub mod Rules
pub mod Tasks
pub mod FrameCode
pub mod Frames
pub mod Takes
pub mod Modes
pub mod Looks
