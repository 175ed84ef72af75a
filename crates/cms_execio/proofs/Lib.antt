pub mod Examples
pub mod Asks
pub mod Gathers
pub mod Takings
pub mod Resumed
pub mod Written
