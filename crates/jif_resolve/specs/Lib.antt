-- `Counts`: how many nodes an expression has, and how many locals, statements and calls a block has
-- `Meanings`: what the names of the whole program stand for, and `main`
-- `Places`: what stands before a place in a method, and what a name stands for there
-- `Faults`: the faults of a draft, as one list
-- `First`: the order of the kinds of faults; the first of some faults, found one by one
-- `Variables`: the variables of a draft, in order
-- `Labels`: the label that names make
-- `Resolved`: the program of a draft
-- `Verdicts`: which fault comes first; what becomes of a draft
-- `Refusals`: which refusal tells which fault
-- `Worked`: small drafts
-- `Sizes`: the limits that drafts of the parser keep
-- `Returns`: where the statements of a draft return
-- `GlobalNames`, `KnownNames`: how the names of the whole program are kept, and those that are known at a place
-- `Walks`: the place behind statements of a block that goes on
-- `Contexts`: what all places of a method have in common, as the code hands it on
-- `Making`, `AddedVariables`: what a label, a statement and the variables so far are, while a program is made
pub mod First
pub mod Counts
pub mod Meanings
pub mod Places
pub mod Faults
pub mod Variables
pub mod Labels
pub mod Making
pub mod Contexts
pub mod Resolved
pub mod Verdicts
pub mod Worked
pub mod Sizes
pub mod Returns
pub mod GlobalNames
pub mod KnownNames
pub mod Walks
pub mod AddedVariables
pub mod Refusals
