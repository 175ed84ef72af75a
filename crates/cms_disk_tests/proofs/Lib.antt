pub mod Accessed
pub mod File
mod Planned
