-- What the lines of a listing are assembled to.
pub mod Early
pub mod Steps
pub mod Gives
pub mod Texts
pub mod Names
pub mod Sound
pub mod Image
