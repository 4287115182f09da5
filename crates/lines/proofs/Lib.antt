pub mod Cutting
pub mod Feeds
