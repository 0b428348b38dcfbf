pub mod Instructions
pub mod Assembly
pub mod Before
pub mod Assembled
pub mod Declarations
pub mod Steps
pub mod DraftView
