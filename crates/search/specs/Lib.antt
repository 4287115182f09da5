pub mod Selections
pub mod Searches
pub mod Tests
pub mod Outcomes
pub mod Limiting
pub mod Theorems
