-- `Texts`: the texts of statements, as lines of the printed program
-- `Statements`: the same by the tree
-- `Short`: a text without the labels of what it declares
pub mod Short
pub mod Statements
pub mod Texts
