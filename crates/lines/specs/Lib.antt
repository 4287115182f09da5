pub mod Line
pub mod Source
pub mod Lines
