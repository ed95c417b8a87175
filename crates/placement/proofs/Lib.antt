pub mod Starts
pub mod Cheapest
pub mod Held
pub mod SomePlan
pub mod Passes
pub mod TriedSteps
pub mod Stays
pub mod Touched
