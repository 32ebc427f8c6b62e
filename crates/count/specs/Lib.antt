pub mod Step
pub mod Borrow
pub mod SameStep
pub mod Lending
pub mod ManyCounts
pub mod Count
pub mod Inner
