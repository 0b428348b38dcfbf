pub mod Decoded
pub mod Formats
pub mod Listing
pub mod Operands
pub mod Mnemonics
