pub mod Columns
pub mod Fits
pub mod Lines
pub mod Places
pub mod Rectangles
pub mod Routes
pub mod Strips
