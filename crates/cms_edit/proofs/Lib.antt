pub mod Places
pub mod Moves
pub mod Reversed
pub mod Targets
pub mod HeldEditors
pub mod Folds
