-- What the walks of the code find is shown in `Firsts`, `Nested`, `Walking`, `Within` and `Numbered`. That reasons deny
-- and are due goes from pairs and principals (`PairLaws`) to what reads tell (`ToldLabels`, `FieldLaws`), to what
-- statements tell (`UsedLabels`) and need (`BackedStatements`, `StatementLaws`), and with the labels of a checked
-- program (`ProgramLabels`) to whole programs (`ProgramLaws`). What rows claim is shown in `RefutedStatements`,
-- `RefutedFields`, `NamedPrincipals` and `TrueCauses`.
pub mod Firsts
pub mod Nested
pub mod FirstPairs
pub mod Walking
pub mod Within
pub mod Numbered
pub mod PairLaws
pub mod ToldLabels
pub mod FieldLaws
pub mod UsedLabels
pub mod FirstFound
pub mod BackedStatements
pub mod StatementLaws
pub mod RefutedStatements
pub mod RefutedFields
pub mod NamedPrincipals
pub mod TrueCauses
pub mod ProgramLabels
pub mod ProgramLaws
pub mod ToldSlots
pub mod Sites
