pub mod Places
pub mod Objects
pub mod VTables
pub mod Rewrites
pub mod Ending
