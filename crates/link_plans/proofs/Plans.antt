-- The links of a plan: its blocks, one after another.
pub mod Blocks
pub mod Links
