-- `Stages`, `SomeStages`, `PlacedStops`, `RefusedStages`: stages one after another: how a result ends them, that they
--     have one outcome and some outcome, that what holds of each refusal of a program or of its hosts holds of what
--     stops them, and that this is a refusal
-- `OneSource`, `OnePlaced`, `OneStart`, `OneFault`: each stage has one outcome
-- `SomeSource`, `SomePlaced`, `SomeStart`: and some outcome
-- `ReadSources`, `ReadLaws`: what is known of a program that was accepted, and that it can be split
-- `NativeSources` and what it cites: its tree is that of a program of the code
-- `Stops`, `LoadedFiles`, `Loading`: what loads say of what is held
-- `AbsentFiles`, `HeldFiles`: of files that tell, which is the first that is absent, or what all of them hold
-- `BlockParts`: what a walk of nested blocks collects
-- `Answering`: what a put leaves, and what follows of answers
-- `DueByFiles`: what is due by what files hold, or for a load that failed, is one verdict
pub mod AbsentFiles
pub mod Answering
pub mod BlockParts
pub mod DueByFiles
pub mod HeldFiles
pub mod LineCounts
pub mod ListLimits
pub mod LoadedFiles
pub mod Loading
pub mod NativeBlocks
pub mod NativeParts
pub mod NativePrograms
pub mod NativeSources
pub mod OneFault
pub mod OnePlaced
pub mod OneSource
pub mod OneStart
pub mod PlacedLists
pub mod Places
pub mod ReadLaws
pub mod ReadSources
pub mod Reading
pub mod Refusals
pub mod PlacedStops
pub mod RefusedStages
pub mod Results
pub mod SeenItems
pub mod SomePlaced
pub mod SomeSource
pub mod SomeStages
pub mod SomeStart
pub mod Stages
pub mod StartingDue
pub mod StepCounts
pub mod Stops
