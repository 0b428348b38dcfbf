pub mod Matches
pub mod GivingView
pub mod WheelView
pub mod TickRecord
pub mod Delays
pub mod TimerRecord
pub mod TimerCalls
pub mod TimerSeen
