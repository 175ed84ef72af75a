pub mod Keywords
pub mod Numerals
pub mod Overwritten
