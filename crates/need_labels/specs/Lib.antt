pub mod Labelled
pub mod Needs
pub mod Plan
pub mod Finding
pub mod NeedExamples
