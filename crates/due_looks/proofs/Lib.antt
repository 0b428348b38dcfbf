pub mod LookLaws
pub mod OrderLaws
pub mod DueLaws
