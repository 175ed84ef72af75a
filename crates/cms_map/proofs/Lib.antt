pub mod Free
pub mod Held
pub mod Low
pub mod Packed
pub mod TouchedBlocks
