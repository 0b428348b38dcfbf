pub mod Blocks
pub mod Starts
pub mod Halfway
pub mod Whole
