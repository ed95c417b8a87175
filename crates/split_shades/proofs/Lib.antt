-- The proofs go from values (`KeptValues`, `FlowingBlocks`, `FlowingPrograms`) over the walk (`ShadedStates`, and the
-- files on values, statements, moves, branches, calls and blocks, to `ShadedPrograms`) to code: `ReadOff` reads a table
-- off any walk in steps, and `ShadedSplit` does so for shades. `ForwardExits` tells where the branch of a loop leads,
-- before its guard was walked over.
pub mod BasisLabels
pub mod KeptValues
pub mod FlowingBlocks
pub mod FlowingPrograms
pub mod ShadedStates
pub mod ShadedRiders
pub mod ShadedMoves
pub mod ShadedValues
pub mod ShadedStatements
pub mod ShadedCalls
pub mod ShadedBranches
pub mod ShadedBlocks
pub mod LabelledSites
pub mod ShadedPrograms
pub mod ReadOff
pub mod ShadedPlaces
pub mod ForwardExits
pub mod ShadedSplit
pub mod KnownCode
pub mod CarriedBlocks
pub mod NamedBlocks
pub mod CarriedCode
pub mod NamedCode
pub mod WorkedShades
