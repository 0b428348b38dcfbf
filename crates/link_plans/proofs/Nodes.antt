-- Which node of a task stands in which list.
pub mod Waiters
pub mod Served
pub mod Past
