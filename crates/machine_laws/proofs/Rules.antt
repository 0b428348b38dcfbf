-- The rules of the machine: which one applies, what is due, and the machines that each comes to.
pub mod Chosen
pub mod Due
pub mod Outcomes
pub mod Prompt
