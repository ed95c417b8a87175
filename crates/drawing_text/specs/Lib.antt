pub mod Letters
pub mod Spans
pub mod Widths
