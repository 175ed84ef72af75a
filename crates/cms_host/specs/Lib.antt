pub mod Answers
pub mod Deeds
pub mod FileBytes
pub mod HeldBytes
pub mod Units
