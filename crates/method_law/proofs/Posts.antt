-- Posts that act at once and posts that are performed later: the same kernel, and objects of the same kinds.
pub mod Performing
pub mod Kinds
pub mod Wakes
pub mod Services
pub mod Ticks
pub mod Takes
