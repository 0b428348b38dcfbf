pub mod Given
pub mod Chained
pub mod Filters
pub mod Slots
pub mod Wheel
pub mod Firing
