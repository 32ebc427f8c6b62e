pub mod Mode
