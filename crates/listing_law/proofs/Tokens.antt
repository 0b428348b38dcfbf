-- Parts of a text, and the tokens as which they are read.
pub mod Numerals
pub mod Parts
pub mod Read
pub mod Hexadecimals
pub mod Spelled
pub mod Names
