-- The statements of code words.
pub mod Heads
pub mod Bodies
pub mod Pieces
pub mod Words
