pub mod Answers
pub mod Claims
pub mod Due
pub mod Explained
pub mod Places
pub mod Questions
pub mod Statuses
pub mod Texts
