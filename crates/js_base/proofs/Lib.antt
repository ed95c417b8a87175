pub mod BitLemmas
pub mod Cuts
pub mod Decisions
pub mod DecimalDigits
mod HeldFiles
pub mod Lists
pub mod NameTexts
pub mod NamedItems
pub mod Options
pub mod Repeats
pub mod Texts
