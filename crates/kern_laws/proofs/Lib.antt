pub mod Changes
pub mod Services
pub mod Valid
pub mod Lists
pub mod Cost
pub mod ObjectKinds
pub mod Start
pub mod Lemmas
