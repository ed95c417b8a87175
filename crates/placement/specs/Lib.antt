pub mod Placing
pub mod Starting
pub mod Steps
pub mod Choice
pub mod Views
