pub mod Event
pub mod Written
