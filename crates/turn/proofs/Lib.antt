pub mod Turn
pub mod There
