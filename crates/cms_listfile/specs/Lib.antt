pub mod Lines
pub mod Listfile
pub mod Told
