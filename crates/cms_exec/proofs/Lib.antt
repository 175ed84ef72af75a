pub mod Begun
pub mod Named
pub mod Starts
pub mod Examples
