-- That texts are those of the tree goes from what is printed of names, labels and expressions, which has no line feed
-- (`Printed`), to what one line says (`LineSteps`), and from there to blocks and programs (`ByTree`). `Lines` and
-- `Shortened` are the steps of loops.
pub mod ByTree
pub mod LineSteps
pub mod Lines
pub mod Printed
pub mod Shortened
