pub mod Clear
pub mod Gaps
pub mod Hubs
pub mod Tracks
pub mod Walks
pub mod Within
