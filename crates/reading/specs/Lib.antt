pub mod Shape
pub mod Input
pub mod Reading
pub mod Outcomes
pub mod Law
pub mod Counts
pub mod Wider
