pub mod Laws
pub mod Inheritance
pub mod ObjectKinds
