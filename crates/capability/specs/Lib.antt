pub mod Pending
pub mod Tag
