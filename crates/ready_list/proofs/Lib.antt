pub mod Marks
pub mod Consistent
