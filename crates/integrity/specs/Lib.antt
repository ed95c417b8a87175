pub mod Exposed
pub mod Outside
pub mod Altering
pub mod Holding
pub mod Standing
pub mod Loose
pub mod IntegrityExamples
