pub mod Plans
pub mod Fits
pub mod Nodes
pub mod Renewals
pub mod Matching
pub mod Calls
pub mod Lemmas
