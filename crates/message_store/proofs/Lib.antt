pub mod Alike
pub mod Apart
pub mod Changes
pub mod CallFacts
pub mod StartFacts
