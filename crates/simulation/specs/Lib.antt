pub mod Programs
pub mod Obeying
pub mod Driven
pub mod Ending
