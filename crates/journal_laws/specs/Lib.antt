-- `Bare`: tokens, messages and hosts without tags
-- `Steps`: a take or a turn as one step, and what it leaves for one truth value: whether its check passes
-- `BareExamples`: a host with one entry on its stack
-- `Plays`: the lines that steps leave, and whose journal they are
-- `ToldPlays`: the same of a host that is played from its journal
-- `PlayExamples`: a host that asks another one for a field
pub mod Bare
pub mod Steps
pub mod BareExamples
pub mod Plays
pub mod ToldPlays
pub mod PlayExamples
