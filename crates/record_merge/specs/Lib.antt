pub mod Single
pub mod Notes
pub mod Meeting
pub mod NextLines
pub mod JournalLines
pub mod Journals
pub mod Merging
pub mod Reading
