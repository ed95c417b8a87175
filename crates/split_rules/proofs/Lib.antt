-- Each thing that is proved of all programs is one induction over blocks, which shows that what the walk gives obeys a
-- judgement on its list. From the list it is read off the code, and no block is looked at any more.
--
-- `Flow`: `proofs/Walked*`; read off the list: `proofs/Sound*`: the code is sound
-- `Typing`: `proofs/Typed*`; read off the list: `TypedPlaces`: the table of `TypedCode`
-- `Asking`: `proofs/Told*`, from what `proofs/Seen*` find of the labels of each statement; read off the list:
--     `ToldCode`: what is asked is granted
-- `Pace`: `proofs/Paced*`: how much is ahead; read off the list: `PacedPlaces`: the numbers at the places
-- how much a walk gives: `proofs/Few*`; read off the list: the lists of the code are short
-- what a pass over a host is told (`Tells`): `proofs/ReleasedBlocks`; read off the list: `ReleasedPrograms`: the table
--     of releases
pub mod Places
pub mod Pendings
pub mod Standing
pub mod Temporaries
pub mod CodeLabels
pub mod NumberedLists
pub mod FittingOperations
pub mod CodeItems
pub mod Fronts
pub mod SoundParts
pub mod SoundInstructions
pub mod SoundCode
pub mod WalkedStates
pub mod WalkedExpressions
pub mod WalkedRiders
pub mod WalkedMoves
pub mod WalkedCalls
pub mod WalkedBlocks
pub mod WalkedSites
pub mod WalkedPrograms
pub mod SoundSplit
pub mod Settling
pub mod TypedStates
pub mod TypedValues
pub mod TypedForwards
pub mod TypedStatements
pub mod TypedRows
pub mod TypedMoves
pub mod TypedCalls
pub mod TypedBranches
pub mod TypedBlocks
pub mod TypedPrograms
pub mod TypedPlaces
pub mod TypedSplit
pub mod OneNext
pub mod Riding
pub mod LabelsKept
pub mod BackedLabels
pub mod AllowedTyping
pub mod ToldEmissions
pub mod ToldStatements
pub mod ToldMoves
pub mod ToldWalks
pub mod SeenLabels
pub mod SeenBlocks
pub mod SeenPrograms
pub mod ToldCode
pub mod AskingSplit
pub mod Budgets
pub mod PacedEmissions
pub mod PacedPlaces
pub mod PacedSplit
pub mod PacedRuns
pub mod FewEmissions
pub mod FewItems
pub mod TrustedNeeds
pub mod OpenStatements
pub mod OpenPlaces
pub mod OwnLabels
pub mod OpenCode
pub mod CoveredRuns
pub mod OpenExamples
pub mod TypingExamples
pub mod ReleasedRows
pub mod ReleasedBlocks
pub mod ReleasedPrograms
pub mod ExpressionNodes
pub mod ReadRows
pub mod AddedStatements
pub mod ToldRows
