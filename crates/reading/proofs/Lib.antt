pub mod Walks
pub mod Steps
pub mod Law
pub mod Counted
pub mod Wider
