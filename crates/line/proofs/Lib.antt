pub mod FirstSix
