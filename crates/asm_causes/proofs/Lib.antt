pub mod CauseLaws
pub mod CalmLaws
pub mod SizeLaws
