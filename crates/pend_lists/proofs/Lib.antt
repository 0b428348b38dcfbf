pub mod Tasks
pub mod Places
pub mod Heads
pub mod Consistent
