-- What every post leaves as it was.
pub mod Kept
