-- How many events and raw steps a run has.
pub mod Quiet
pub mod Events
pub mod Steps
