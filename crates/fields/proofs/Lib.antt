pub mod Canonical
pub mod Cuts
pub mod Joins
pub mod Signs
