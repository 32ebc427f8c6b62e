-- What ticks keep, what those that do not load come to, what those that load move, and what many alike come to at once. The functions' own proofs
-- are in the folders beside. Assumes nothing.
pub mod Keeps
pub mod Counted
pub mod Loaded
pub mod NullCount
pub mod One
