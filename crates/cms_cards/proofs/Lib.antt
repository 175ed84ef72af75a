pub mod Cards
pub mod Headers
pub mod FilledRecords
pub mod Loaded
mod DeckExamples
pub mod Fetches
pub mod Deals
pub mod Loads
pub mod Texts
mod Examples
