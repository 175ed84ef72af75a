mod Joined
pub mod Stars
pub mod Alone
pub mod Places
pub mod Rounds
pub mod Requests
pub mod Statements
pub mod NucleusCalls
pub mod Subcommands
pub mod ReadWords
pub mod UnitsAttached
pub mod Starts
pub mod Plays
pub mod Ends
pub mod Handed
