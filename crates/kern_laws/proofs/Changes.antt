-- The plain changes that services are made of, and what it takes to keep something under each.
pub mod Each
pub mod Parts
pub mod Words
