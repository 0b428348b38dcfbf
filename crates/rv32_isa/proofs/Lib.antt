pub mod Columns
pub mod Immediates
pub mod Law
