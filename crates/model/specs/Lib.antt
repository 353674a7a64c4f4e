pub mod State
pub mod Calls
pub mod Tables
pub mod Finish
pub mod Steps
