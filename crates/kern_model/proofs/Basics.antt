-- What the other proofs share: choices by tests, and changes of the table of tasks.
pub mod Choices
pub mod Updates
