-- Moves of tasks to other priorities: their links, what they do to the lists, and the records after them.
pub mod Links
pub mod Seen
pub mod Rewaits
pub mod Moves
pub mod Fits
pub mod Told
pub mod Written
