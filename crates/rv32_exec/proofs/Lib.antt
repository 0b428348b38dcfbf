pub mod Places
mod Rows
pub mod ChangeLaws
pub mod StoreLaws
pub mod WordLaws
pub mod KeptLaws
