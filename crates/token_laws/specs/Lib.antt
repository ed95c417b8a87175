pub mod Holders
pub mod Numbers
pub mod Reached
pub mod Requests
pub mod TokenExamples
