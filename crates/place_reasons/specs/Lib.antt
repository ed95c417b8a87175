-- `Firsts`: the first of what may be there
-- `Questions`: what brings a pair into a program label, an expression or an index, for each statement
-- `Reasons`: why a host may not hold a field, a head or a statement: the first of the rows that holds
-- `Search`: what the walks of the code find
-- `Kept`: answers that are kept for questions that were asked
-- `Programs`: what the laws need of a program
-- `Refuted`: what each row claims, by itself
-- `ProgramReasons`: the reasons of all fields and of all statements, by their numbers
-- `PlaceExamples`: small programs
pub mod Firsts
pub mod Questions
pub mod Reasons
pub mod Search
pub mod Refuted
pub mod Kept
pub mod ProgramReasons
pub mod PlaceExamples
pub mod Programs
