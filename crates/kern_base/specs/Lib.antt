pub mod Numbers
pub mod Tables
pub mod KindsView
pub mod Services
pub mod Errors
pub mod Checks
