pub mod Expansion
pub mod Kinds
pub mod Procedures
pub mod Statements
pub mod Variables
pub mod Words
