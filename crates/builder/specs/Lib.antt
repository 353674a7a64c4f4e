pub mod Inner
pub mod View
