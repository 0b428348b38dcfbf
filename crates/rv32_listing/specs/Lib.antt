pub mod Texts
pub mod Forms
pub mod Operands
pub mod WordLines
pub mod Disassembly
