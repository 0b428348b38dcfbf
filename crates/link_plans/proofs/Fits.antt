-- Links fit the lists as they stand when the call begins.
pub mod Wakes
pub mod Woken
pub mod Waits
