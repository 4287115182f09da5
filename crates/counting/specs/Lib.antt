pub mod Stops
pub mod Ways
pub mod Three
pub mod Separate
pub mod Same
pub mod Lawful
