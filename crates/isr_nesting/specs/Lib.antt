pub mod Least
pub mod Tree
pub mod FrameView
pub mod Nest
pub mod Keys
pub mod RecordView
pub mod Kept
pub mod Order
