pub mod Tokens
pub mod Tops
