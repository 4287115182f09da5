pub mod Cheaper
pub mod Totals
pub mod Answering
