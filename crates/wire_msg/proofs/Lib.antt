-- `Sequels`: the laws of `whole` and `known`
-- `Sizes`, `Layouts`, `FaultLaws`: how many bytes each reader takes, what fields are refused for, and from there to the
--     first fault
pub mod Appends
pub mod FaultLaws
pub mod FieldLaws
pub mod FrameLaws
pub mod Layouts
pub mod MessageLaws
pub mod RiderLaws
pub mod Sequels
pub mod Sizes
