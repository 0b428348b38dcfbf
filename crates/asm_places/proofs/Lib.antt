pub mod NameLaws
pub mod LinePlacesLaws
