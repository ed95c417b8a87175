-- `OpenSteps`: what an open thread's turn leaves and sends. What waits and what is on the stack need not be open there,
--     but what the turn takes off
-- `OpenTakes`: what a host leaves and sends that takes an open message, where what it wakes or takes off is open too;
--     and what passes the check of a misbehaving host is open
-- `OpenWorlds`: every event keeps that all is open, and changes nothing that may not be affected
-- `Starts`, `OutsideLaws`, `RootLaws`: the world before the first event, and the laws
-- `Among`, `FliesOn`: one of a list, and what is in flight, where another is added or taken out
-- `StackMoves`, `WaitMoves`: what a step of one host makes of its stack, and of the threads that wait there
-- `HeldTokens`: where the tokens of a chain are, so that nobody else has them and no other event sends them
-- `HolderStays`, `TightKept`, `OutsideEvents`, `TightLaws`: an event that is none of the holder's: what it leaves of
--     the holder and the chain, and that all else stays outside
-- `TightStart`: the chain before the first event
-- `StandsAtStart`, `StandsOn`: the world before the first event stands for the start of the program, and for the same
--     configuration after an event that is none of the holder's
-- `TightMoves`, `ChainMoves`: an event of the holder's: what has to be shown of the host that changed, and chains with
--     an entry more
-- `PopMoves`: the first entry of the chain is taken off, or its token is lost
-- `LooseChains`, `LooseEvents`: chains whose first token misbehaving hosts may have: who has the tokens below it, and
--     events that leave the first entry where it is
-- `LoosePops`, `LooseLaws`: the first token is given back, and the law of every event of a loose chain
-- `TurnMoves`, `HolderLaws`: the turns of the holder's thread, from what `typed_steps` says of the host
-- `TakeMoves`, `AnswerMoves`, `PassMoves`, `TakeLaws`: the holder's request is taken, its answer, and the token in
--     flight
-- `TellMoves`: a turn that sets a field of a misbehaving host, for which the holder then waits
-- `HeldFields`, `Elsewhere`: a field on a misbehaving host is one that may be affected, and what holds where such a
--     host is told a value
-- `StallMoves`: a turn that tells a misbehaving host anything but a new token, for which the holder then waits
-- `LeftOut`: what is due for which a misbehaving host is trusted is left out of an altered run, item by item
-- `LooseTurns`: a turn that hands a misbehaving host the token of the first entry, after which the chain is loose; and
--     what comes of every turn of the holder's thread
-- `ActMoves`: a misbehaving host answers the holder that waits for it
-- `Entering`: what an instruction sends: a token goes to the host that it enters, or back
-- `OwnEvents`: which events are the holder's
-- `AlteredRuns`, `AlteredLaws`: the law along events, for programs that are set, whichever hosts misbehave
-- `IntegrityExamples`, `ChainExamples`, `LooseExamples`: small cases, computed
pub mod OpenSteps
pub mod OpenTakes
pub mod OpenWorlds
pub mod OutsideLaws
pub mod Starts
pub mod RootLaws
pub mod Among
pub mod StackMoves
pub mod WaitMoves
pub mod FliesOn
pub mod HeldTokens
pub mod HolderStays
pub mod TightKept
pub mod OutsideEvents
pub mod TightStart
pub mod TightLaws
pub mod StandsOn
pub mod StandsAtStart
pub mod TightMoves
pub mod ChainMoves
pub mod LooseChains
pub mod PopMoves
pub mod LooseEvents
pub mod LoosePops
pub mod LooseLaws
pub mod TurnMoves
pub mod TakeMoves
pub mod AnswerMoves
pub mod PassMoves
pub mod ActMoves
pub mod HolderLaws
pub mod Elsewhere
pub mod TellMoves
pub mod HeldFields
pub mod StallMoves
pub mod TakeLaws
pub mod OwnEvents
pub mod IntegrityExamples
pub mod ChainExamples
pub mod Entering
pub mod LeftOut
pub mod LooseTurns
pub mod LooseExamples
pub mod AlteredRuns
pub mod AlteredLaws
