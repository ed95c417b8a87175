pub mod ActsFor
pub mod Closure
pub mod Declaring
pub mod Pairs
pub mod Refusal
