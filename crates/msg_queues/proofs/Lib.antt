pub mod RowLaws
pub mod KeyLaws
