pub mod SpellingExamples
pub mod OperandLemmas
pub mod ChoiceLemmas
pub mod Examples
pub mod Patterns
pub mod Gotten
