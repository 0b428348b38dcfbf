pub mod Tables
pub mod Memory
pub mod Cells
pub mod Symbols
pub mod Known
pub mod Executable
pub mod CauseNumbers
pub mod Within
