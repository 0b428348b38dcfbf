-- The listing of a valid image is an accepted case.
pub mod Checked
pub mod Lengths
pub mod Whole
