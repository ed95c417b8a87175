-- `CleanValues`, `KeptCalls`, `AlignedItems`, `CallPairs`: the parts of a relation: values, calls, what is pending, and
--     what is set in two calls at once
-- `IdleSteps`, `PairedStatements`, `PairedItems`: a step of an item that is idle, and one that both runs make
-- `PlainSteps`, `AlteredSteps`: how far the plain run goes on for a step of the altered run, and for whatever may come
--     next in it
-- `RelatedStart`, `Moments`: the start, and the law along moments
-- `AffectedLabels`, `ExposedPrograms`: what may be affected goes up along flows of labels, also of those that are found
--     while a program is gone through
-- `IdleBlocks`, `LeftBlocks`, `SteadyValues`, `SteadyBlocks`, `SteadyPrograms`: what the label check and the needs
--     give: of statements under a label that may be affected, of those that may be left out, of values, and of all
-- `Lists`: what holds of elements of lists
pub mod Lists
pub mod CleanValues
pub mod KeptCalls
pub mod AlignedItems
pub mod IdleSteps
pub mod CallPairs
pub mod PairedStatements
pub mod PairedItems
pub mod PlainSteps
pub mod AlteredSteps
pub mod RelatedStart
pub mod Moments
pub mod AffectedLabels
pub mod ExposedPrograms
pub mod IdleBlocks
pub mod LeftBlocks
pub mod SteadyValues
pub mod SteadyBlocks
pub mod SteadyPrograms
