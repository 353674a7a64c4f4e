pub mod Wrapped
pub mod Pooling
pub mod Slots
