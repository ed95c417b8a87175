-- `Trees`: the mirror of programs, and the bridge to it
-- `SourceRun`, `Store`, `Operators`: the plain run
-- `LabelRules`: the rules of labels: what each statement asks for, and which label each expression has
-- `Altered`, `AlteredExamples`: what misbehaving hosts may make of a plain run
-- `Limits`, `Sizes`: all limits of programs in one record, and what they count
-- `Numbering`, `WellNumbered`: numbers in the order of the text, each of which stands for something of the right kind
-- `Numbers`, `Named`: programs whose numbers have 64 bits, and whose parts have names
-- `Labelling`, `ValueLabels`, `WrittenLabels`: labels where variables are set, labels where they are read, and labels
--     that are written
-- `Returns`, `Results`: where a method returns, and what becomes of results
pub mod Operators
pub mod SourceRun
pub mod Store
pub mod Trees
pub mod Numbering
pub mod WellNumbered
pub mod Named
pub mod LabelRules
pub mod WrittenLabels
pub mod Sizes
pub mod Limits
pub mod Numbers
pub mod Returns
pub mod Labelling
pub mod ValueLabels
pub mod Results
pub mod Altered
pub mod AlteredExamples
