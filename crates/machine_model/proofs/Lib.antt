pub mod Rows
pub mod CountLaws
pub mod RunLaws
