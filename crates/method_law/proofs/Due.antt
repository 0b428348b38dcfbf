-- Which interrupt enters next in both runs.
pub mod Alike
pub mod Modes
