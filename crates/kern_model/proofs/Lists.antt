-- Who stands in lists.
pub mod Counts
pub mod Members
