-- The links of a call, and the renewal that follows them.
pub mod Follows
pub mod Tells
pub mod Renews
