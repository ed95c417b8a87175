pub mod Arrivals
pub mod Seals
pub mod SealsFile
