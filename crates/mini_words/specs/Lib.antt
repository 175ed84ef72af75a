pub mod Commands
pub mod Exits
pub mod Names
pub mod Words
pub mod Requests
pub mod Ranges
pub mod Readings
