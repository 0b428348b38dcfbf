pub mod Box
pub mod BoxView
pub mod Rows
