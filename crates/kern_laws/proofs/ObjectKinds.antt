-- No change of the kernel makes of an object one of another kind.
pub mod Changes
pub mod Objects
pub mod Tasks
pub mod Calls
