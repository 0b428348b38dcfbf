-- Which tasks are ready: after a change of the kernel, after a call, and where the scheduler picks.
pub mod Changes
pub mod Callers
pub mod Pick
