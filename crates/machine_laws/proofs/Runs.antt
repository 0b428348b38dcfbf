-- Every run ends, and its events are those of its machines.
pub mod Falling
pub mod Ends
pub mod Machines
