pub mod Books
pub mod Ends
pub mod Variants
pub mod Theorems
