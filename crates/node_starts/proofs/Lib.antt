pub mod NodeStages
pub mod OneSource
pub mod Rows
pub mod SomeSource
pub mod SourceRefusals
