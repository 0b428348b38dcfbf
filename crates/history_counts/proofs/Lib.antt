pub mod Reader
pub mod Lines
pub mod Spelled
pub mod Told
pub mod Counts
