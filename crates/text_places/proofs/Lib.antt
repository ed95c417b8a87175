pub mod Columns
pub mod ShownLines
