pub mod Decisions
pub mod Words
