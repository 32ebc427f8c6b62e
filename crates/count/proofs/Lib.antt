-- What the decimal step does to the digits, and what n counts come to. The functions' own proofs are in the folders beside. Assumes nothing.
pub mod Borrow
pub mod StepByRows
pub mod Lends
pub mod ThreeDigits
pub mod Weight
pub mod Repeated
pub mod Held
pub mod Many
