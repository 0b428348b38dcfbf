-- Calls without a renewal of priorities.
pub mod Quick
