pub mod Blocks
pub mod Limits
pub mod Causes
pub mod Journal
pub mod Told
pub mod Laws
