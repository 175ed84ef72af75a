pub mod State
pub mod TypeCommand
pub mod Erase
pub mod Rename
