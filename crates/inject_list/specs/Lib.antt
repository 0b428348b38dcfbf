pub mod Lists
pub mod Pieces
pub mod Entries
pub mod Reading
pub mod Parts
pub mod Given
