pub mod Created
pub mod Padded
pub mod Parts
