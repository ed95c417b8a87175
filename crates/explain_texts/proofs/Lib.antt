pub mod DraftParts
pub mod Pieces
