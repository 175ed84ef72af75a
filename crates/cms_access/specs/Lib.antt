pub mod Access
pub mod Release
pub mod Query
pub mod Format
pub mod Century
pub mod Questions
pub mod EmptyVolume
pub mod Shown
