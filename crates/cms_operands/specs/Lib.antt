pub mod Spellings
pub mod Refusals
pub mod ReadModes
pub mod Operands
pub mod Choices
pub mod Optional
