-- `MarkParts`: what a walk collects of the program is what its tree has
-- `Marking`: marks and numbers tell the same
pub mod MarkParts
pub mod Marking
