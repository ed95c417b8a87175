pub mod Letters
pub mod Playing
