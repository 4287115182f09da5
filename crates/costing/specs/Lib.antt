pub mod Cheapest
pub mod Answers
