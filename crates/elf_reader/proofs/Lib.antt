pub mod RowLaws
pub mod NameLaws
pub mod CellLaws
pub mod Outcomes
pub mod WithinLaws
