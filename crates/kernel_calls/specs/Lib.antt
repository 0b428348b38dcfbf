pub mod Works
pub mod KernelRecord
pub mod Moving
pub mod Ticking
pub mod Ending
pub mod Stepping
pub mod WorkView
pub mod KernelView
