pub mod Tokens
pub mod Statements
pub mod Lines
pub mod Assembled
pub mod Accepted
