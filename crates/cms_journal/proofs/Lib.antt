pub mod Crashes
pub mod Steps
pub mod Cuts
pub mod Events
pub mod Pieces
pub mod Counts
pub mod Examples
pub mod Sizes
