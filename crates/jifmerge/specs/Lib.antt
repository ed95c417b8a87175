pub mod Answers
pub mod Due
pub mod Merged
pub mod Replays
