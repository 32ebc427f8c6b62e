pub mod Lists
pub mod Written
pub mod Apart
pub mod Room
