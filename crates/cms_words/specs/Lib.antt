pub mod Numbers
pub mod UnitWords
pub mod Command
pub mod Words
pub mod Readings
