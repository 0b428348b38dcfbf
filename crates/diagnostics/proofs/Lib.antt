pub mod Kept
pub mod MeaningLaws
pub mod RefusalLaws
