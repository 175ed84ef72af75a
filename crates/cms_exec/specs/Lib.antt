pub mod Exec
pub mod Searches
pub mod LawsExec
pub mod Refused
