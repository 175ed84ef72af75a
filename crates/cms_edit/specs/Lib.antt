pub mod Buffers
pub mod Subcommands
pub mod Edits
pub mod Editors
pub mod LawsEdits
