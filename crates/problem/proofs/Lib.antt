pub mod First
pub mod Fit
pub mod Said
