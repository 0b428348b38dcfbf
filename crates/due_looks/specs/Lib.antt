pub mod Rest
pub mod Order
pub mod Kept
