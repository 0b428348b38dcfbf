pub mod Numbers
pub mod Waiting
pub mod Taking
pub mod Counts
pub mod Entries
pub mod TableLaws
