pub mod Effects
pub mod Relaxing
pub mod Smallest
pub mod Model
pub mod Held
