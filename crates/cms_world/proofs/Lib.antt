pub mod BlocksJoined
pub mod Calls
pub mod Chosen
pub mod Exits
pub mod ImageLists
pub mod LastUnit
pub mod Records
pub mod UnitImages
