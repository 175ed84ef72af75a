-- What proofs of this crate share.
pub mod Answers
pub mod Codes
pub mod Forms
pub mod Found
pub mod Each
pub mod Numerals
pub mod Parsed
