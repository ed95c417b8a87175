pub mod Played
pub mod Untaken
