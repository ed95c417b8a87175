pub mod Views
pub mod Trace
pub mod Ahead
pub mod Own
pub mod Places
pub mod Assembly
pub mod Tables
