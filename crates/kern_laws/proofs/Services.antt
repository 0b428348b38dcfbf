-- What each plain change keeps is kept by every service.
pub mod Checks
pub mod Wakes
pub mod Objects
pub mod Mutexes
pub mod Tasks
pub mod Time
pub mod Timers
pub mod Several
pub mod Calls
