pub mod AlikeLists
pub mod CompareDue
pub mod FollowedEvents
pub mod ReleaseParts
pub mod ReleasedLines
pub mod SameMessages
