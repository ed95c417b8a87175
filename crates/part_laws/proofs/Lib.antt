pub mod NeedsKept
pub mod ShownWell
