pub mod FirstWorld
pub mod Scripts
