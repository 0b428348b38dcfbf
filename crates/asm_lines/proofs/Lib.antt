pub mod RowLaws
pub mod PlacingLaws
pub mod SaidForms
pub mod SaidLines
pub mod LineLaws
pub mod PlainForms
pub mod InitialLaws
