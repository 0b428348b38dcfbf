mod Rows
pub mod WordLaws
pub mod GivenLaws
pub mod FormLaws
pub mod LineLaws
pub mod ValidLaws
