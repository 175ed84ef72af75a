pub mod Typed
pub mod Examples
pub mod Renames
