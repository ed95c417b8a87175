-- `Walk`, `WalkStart`: the walk over the program, by the spots of `msg_cost`, in the order of the text, with what is
--     sent and what rides
-- `Emissions`, `Expressions`: what the walk gives, and what an expression becomes
-- `SplitCode`: the code that is read off that list
-- `Releases`, `ReleaseRows`: which operands each instruction releases: read off that list, and told by one pass over
--     the instructions of a host with the statements of the program at hand
-- `Splittable`, `Settled`: what is asked of a program and a plan, and that entries and branches are where they should
--     be
-- `Flow`: what may follow what in the list, one emission at a time
-- `Positions`, `Typing`, `TypedCode`, `Typable`: what is due at a place, what each instruction makes of it, code in
--     which each instruction keeps its law, and what this asks of trust
-- `Allowed`, `Held`: what these ask of labels, needs and the plan
-- `Asking`: what instructions ask of other hosts, and what they tell them
-- `Opening`, `OpenExamples`: what a host may bring about that is trusted for what is due at a place
-- `Pace`, `ThreadRun`: how many instructions may come before the next step, and what a thread runs
-- `Worked`: small programs
pub mod Placed
pub mod Emissions
pub mod Expressions
pub mod Walk
pub mod Positions
pub mod Handing
pub mod Typing
pub mod Typable
pub mod TypedCode
pub mod Allowed
pub mod Held
pub mod SplitCode
pub mod Releases
pub mod ReleaseRows
pub mod Flow
pub mod WalkStart
pub mod Splittable
pub mod Settled
pub mod Worked
pub mod Asking
pub mod Pace
pub mod ThreadRun
pub mod Opening
pub mod OpenExamples
pub mod TypingExamples
