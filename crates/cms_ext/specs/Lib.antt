pub mod Replies
pub mod Objects
pub mod Extensions
pub mod Calls
pub mod Exact
pub mod Tally
