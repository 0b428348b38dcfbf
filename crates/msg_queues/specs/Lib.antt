pub mod Stored
pub mod PoolView
pub mod QueueView
pub mod Rows
