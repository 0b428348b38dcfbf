-- Waiters that are looked at, and woken where their condition holds.
pub mod Wakes
pub mod Links
