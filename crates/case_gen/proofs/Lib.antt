pub mod DrawLaws
pub mod GenerateLaws
