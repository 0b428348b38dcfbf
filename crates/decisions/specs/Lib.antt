pub mod Around
pub mod Rows
pub mod Decided
