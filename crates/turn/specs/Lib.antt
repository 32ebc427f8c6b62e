pub mod Turn
pub mod Finding
pub mod Inner
