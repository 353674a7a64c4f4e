pub mod Records
pub mod Fields
pub mod Writing
pub mod Ends
