-- Both runs: event by event, their histories, and the law.
pub mod Histories
pub mod Events
pub mod Premises
pub mod Law
