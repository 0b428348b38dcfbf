-- Each part of the valid kernel state is kept by each plain change, and all of it by every call, unit, finish and trap.
pub mod Settings
pub mod Queues
pub mod Timers
pub mod Order
pub mod WaitForms
pub mod Results
pub mod Fits
pub mod Objects
pub mod Inherited
pub mod Words
pub mod Calls
