pub mod Rings
pub mod Certificates
pub mod Theorems
