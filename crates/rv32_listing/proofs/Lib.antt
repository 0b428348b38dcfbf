pub mod Pushed
pub mod Sent
mod Worked
