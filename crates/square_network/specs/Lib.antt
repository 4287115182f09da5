pub mod Distances
pub mod Rows
pub mod Shortest
pub mod Model
pub mod Answered
