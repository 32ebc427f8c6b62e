pub mod Board
pub mod Outcome
pub mod Answer
pub mod Making
pub mod Counting
pub mod Queries
