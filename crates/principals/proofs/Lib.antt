pub mod Chains
pub mod Decisions
pub mod Declarations
pub mod Pairing
pub mod Rows
