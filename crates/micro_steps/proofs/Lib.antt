pub mod Stales
pub mod Founds
pub mod Waits
pub mod Seen
pub mod Halves
pub mod Wholes
pub mod Takes
pub mod Backs
