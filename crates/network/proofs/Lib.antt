pub mod Taken
pub mod Solutions
pub mod Lists
