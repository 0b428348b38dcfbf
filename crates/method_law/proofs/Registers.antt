-- Registers that agree but for marked ones.
pub mod Marks
pub mod Instructions
pub mod Calls
pub mod Arguments
pub mod Answers
