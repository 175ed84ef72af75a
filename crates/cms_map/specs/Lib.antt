pub mod Bits
pub mod Touched
