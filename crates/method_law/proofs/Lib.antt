pub mod Posts
pub mod Registers
pub mod Due
pub mod Events
pub mod Runs
