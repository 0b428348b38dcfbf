-- How many micro-steps calls and units take.
pub mod Blocks
pub mod Services
pub mod Calls
