pub mod Views
pub mod Scans
pub mod Pieces
pub mod States
pub mod LawsPieces
pub mod Stored
pub mod Starts
