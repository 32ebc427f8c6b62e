pub mod Boards
pub mod Check
pub mod From
pub mod Mark
pub mod Refusals
pub mod Inner
