pub mod Words
pub mod Zips
pub mod Held
pub mod OneAnswer
pub mod SomeAnswer
