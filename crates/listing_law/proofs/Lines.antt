-- The lines of a listing.
pub mod Rows
pub mod Items
pub mod Pieces
pub mod Read
pub mod Listed
pub mod Fit
