-- The proofs go from changes of a host (`BareHosts`) over messages (`BareTakings`) and instructions (`BareTurns`) to
-- steps (`BareSteps`). A message or an instruction more is a row of `Bare` and a case there, in `WithoutHalt` and in
-- `SameChecks`.
--
-- `WithoutHalt`: a host without the entry that ends the program makes the same steps, but for taking off the top entry
-- `SameChecks`: whether a check passes is told without tags, but where an entry is taken off
-- `TakenOff`: what is left where the top entry is taken off, or a token ignored
-- `PartsAgain`, `SaidMessages`: the parts of a message that is printed, and the message, are read again
-- `AlikeSteps`: what two steps with one line leave of hosts of which the same is told
-- `CloseJournals`: lists of lines of one journal, of which either may have one more at its end
-- `SameFields`: whole runs, and hosts that are played
-- `Retagged`: a host with other tags makes the same steps, where its own tokens get the tags that it makes
-- `KeptStacks`: each token on the stack is one that the host made, and the entry that ends the program stands at the
--     bottom alone
-- `OwnTags`, `FatedTags`: tags by which one host stands for a played one and for a real one
-- `OffAgain`: the token that a step presents, and what is left where it takes an entry off
-- `AlikeMoves`, `FollowedSteps`, `NoRuns`: a real host follows a played one, so it does not go on by a line by which
--     that one does not
-- `CountedNames`, `NamedSteps`, `RealRuns`: a token is presented once at the most, so its tag can be chosen, from the
--     end of a run on: a played host stands for a real one
pub mod BareHosts
pub mod BareTakings
pub mod BareTurns
pub mod BareSteps
pub mod WithoutHalt
pub mod SameChecks
pub mod TakenOff
pub mod CloseJournals
pub mod PartsAgain
pub mod SaidMessages
pub mod AlikeSteps
pub mod SameFields
pub mod Retagged
pub mod KeptStacks
pub mod OwnTags
pub mod OffAgain
pub mod AlikeMoves
pub mod FollowedSteps
pub mod NoRuns
pub mod CountedNames
pub mod FatedTags
pub mod NamedSteps
pub mod RealRuns
