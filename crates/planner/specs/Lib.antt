pub mod Choosing
pub mod Facts
pub mod Advancing
pub mod Loading
pub mod Probing
pub mod Stepping
pub mod Views
pub mod Calls
