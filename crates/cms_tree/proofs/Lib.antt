pub mod Exits
pub mod Sums
pub mod WalkSteps
pub mod Blocks
pub mod Rest
pub mod Within
pub mod FilledBlocks
pub mod LevelsBuilt
pub mod Plain
pub mod BuiltTrees
pub mod ClimbBlocks
pub mod ClimbSteps
pub mod Totals
pub mod Counted
pub mod Own
pub mod Behind
pub mod Resumes
pub mod Heaps
pub mod Paths
mod PathRows
mod ResumeRows
