pub mod Polls
pub mod Takes
pub mod Waits
