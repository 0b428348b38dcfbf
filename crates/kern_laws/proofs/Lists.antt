-- Lists that rise in priority number.
pub mod Rising
