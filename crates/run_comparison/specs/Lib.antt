pub mod Compare
pub mod Followed
pub mod FollowedRuns
pub mod MessageParts
pub mod ReleaseLines
pub mod ReleasingKinds
