pub mod Asking
pub mod Rows
pub mod Senders
pub mod Stacks
