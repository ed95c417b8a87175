-- `Plainly`: an altered run by nobody is the plain run, so each step that hosts make is the plain one
-- `Simulates`: the invariant: how a world stands for a configuration of the plain run, with one case for each way in
--     which the token is held
-- `Moved`, `Kept`: what a step of one host changes in a world, and what it leaves
-- `Pops`: the chain of entries on the stack of a host
-- `Turning`: one turn of the holder, from what it makes at its host to the world
-- `Takes`: taking the one message in flight
-- `Events`, `Starts`, `Obeyed`: every event keeps it, the start has it, so it holds along all events, and the laws
--     follow
-- `Possible`: the one event that is possible is the one that comes next
-- `Ending`: the program halts in time
pub mod Simulates
pub mod Moved
pub mod Kept
pub mod Pops
pub mod Turning
pub mod Takes
pub mod Events
pub mod Plainly
pub mod Possible
pub mod Starts
pub mod Obeyed
pub mod Ending
