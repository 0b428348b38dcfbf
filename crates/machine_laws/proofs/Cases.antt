-- Worked runs, computed from the definitions.
pub mod Runs
mod Services
