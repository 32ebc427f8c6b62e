pub mod Line
pub mod Lines
pub mod Said
pub mod Inner
