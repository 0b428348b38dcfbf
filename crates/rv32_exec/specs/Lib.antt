pub mod Decoding
pub mod Exec
pub mod Memory
pub mod Registers
pub mod Words
pub mod Changes
pub mod Kept
