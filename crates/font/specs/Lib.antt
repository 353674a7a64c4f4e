pub mod Structs
pub mod Laws
pub mod Examples
