pub mod Limits
pub mod Nets
pub mod Calls
pub mod Laws
pub mod Lists
pub mod Made
