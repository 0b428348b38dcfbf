-- Every event keeps the whole of what is always true of a machine.
pub mod Tables
pub mod Events
pub mod Start
pub mod Runs
