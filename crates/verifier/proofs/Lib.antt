pub mod Walks
pub mod Tables
pub mod Vectors
pub mod Texts
pub mod Fields
pub mod Whole
