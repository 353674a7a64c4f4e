pub mod Lookup
pub mod Views
pub mod Identifier
pub mod Search
