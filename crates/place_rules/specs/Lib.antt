pub mod Allowed
pub mod PlaceRules
pub mod Refusal
