-- Priority inheritance.
pub mod Renewed
pub mod Reached
