pub mod Meanings
pub mod Messages
