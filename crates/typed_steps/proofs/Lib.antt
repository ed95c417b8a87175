-- `TreeValues`, `Alike`: an expression's nodes give what it may give; values that are the same or affected
-- `Basics`: facts on lists
-- `KnownReaders`, `SeenResults`: which hosts see what a statement reads; hosts that keep a result see it
-- `Calls`: the calls of a configuration, and their variables
-- `Owing`: what is due, as what is still to be done
-- `Instructions`, `Transfers`, `Arguments`, `CallsMade`, `ResultsGiven`: what each instruction makes of what is still
--     to be done, by the law of its position alone: values, transfers, frames with their parameters, calls, results
-- `Rows`, `Holding`, `HeldSteps`, `Pops`: what all hosts have of a configuration is kept; the chain with an entry more
--     or less
-- `Fuel`: how many events are enough behind each instruction, by its pace
-- `Turns`, `CallTurns`, `HolderTurns`, `Takes`: turns and takes at the host, by the instructions without calls, by
--     those for calls, and by any
-- `RidingExamples`: what rides with a thread, in small cases
pub mod Basics
pub mod TreeValues
pub mod Alike
pub mod SeenResults
pub mod KnownReaders
pub mod Calls
pub mod Rows
pub mod Owing
pub mod Holding
pub mod HeldSteps
pub mod Instructions
pub mod Transfers
pub mod Arguments
pub mod CallsMade
pub mod ResultsGiven
pub mod MainStart
pub mod Pops
pub mod Fuel
pub mod Turns
pub mod CallTurns
pub mod HolderTurns
pub mod Takes
pub mod RidingExamples
