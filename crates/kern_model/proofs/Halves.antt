-- Half-made lists: blocks of micro-steps end as the effect.
pub mod Blocks
pub mod Effects
pub mod Services
