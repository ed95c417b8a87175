pub mod Answers
pub mod Due
pub mod Fields
pub mod Lines
pub mod Names
pub mod Runs
pub mod Words
