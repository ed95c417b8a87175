-- `Releases`: the numbers of the statements that release something
-- `Marks`: of each statement whether it does
-- `Kinds`: the same of the statements of the program
-- `Samples`: a block to work out
pub mod Kinds
pub mod Marks
pub mod Releases
pub mod Samples
