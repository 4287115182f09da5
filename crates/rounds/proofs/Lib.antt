pub mod Loop
pub mod Stating
