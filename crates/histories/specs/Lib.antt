pub mod Histories
pub mod Views
pub mod Promises
