-- No message is lost or made.
pub mod Services
pub mod Calls
