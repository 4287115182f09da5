pub mod Rings
pub mod Testing
pub mod Stepping
pub mod Chains
