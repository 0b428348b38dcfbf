-- Every change, service and unit keeps how tasks, lists, timeouts and counters hang together.
pub mod TaskChanges
pub mod Wakes
pub mod Contents
pub mod Counters
pub mod Suspensions
pub mod Moves
pub mod Signals
pub mod Renewals
pub mod Ticks
pub mod ObjectServices
pub mod TaskServices
pub mod Calls
