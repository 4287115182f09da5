pub mod Bounds
pub mod Refusals
pub mod Rules
pub mod Checks
pub mod Timetables
pub mod Costs
pub mod Flaws
pub mod Problems
