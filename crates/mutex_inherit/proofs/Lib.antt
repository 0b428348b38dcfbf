pub mod ChainLaws
pub mod RowLaws
