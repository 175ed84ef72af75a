pub mod Chains
pub mod Filled
pub mod Joins
pub mod Named
pub mod Passed
pub mod Places
