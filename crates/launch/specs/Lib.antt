pub mod Starts
pub mod Launching
pub mod Report
pub mod Due
