mod Tables
pub mod TrailingBytes
pub mod Steps
pub mod Back
pub mod Stay
pub mod AllBack
pub mod StayBytes
pub mod Sizes
pub mod Skipped
