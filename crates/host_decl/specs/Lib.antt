pub mod Schema
pub mod Draft
pub mod DraftView
pub mod Hosts
pub mod LabelText
pub mod Meaning
pub mod Reading
pub mod Refusal
