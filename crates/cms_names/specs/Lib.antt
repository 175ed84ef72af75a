pub mod Names
pub mod Alphabets
pub mod Patterns
pub mod Modes
