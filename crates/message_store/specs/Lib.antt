pub mod Store
pub mod Start
pub mod StoreView
