pub mod Escapes
pub mod Rows
pub mod Walks
