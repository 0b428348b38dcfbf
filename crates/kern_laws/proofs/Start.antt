-- The kernel at the start.
pub mod Linked
pub mod Valid
