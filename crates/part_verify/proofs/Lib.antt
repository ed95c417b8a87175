-- `Within`: words within words, and what needs have, by the operations
-- `Walks`: one step of a walk, its measure and its end
-- `Needs`: one entry after the other
-- `OneRefusal`: the laws of refusals
-- `SoundOrRefused`: that every part is one or the other: the walk once more, as a recursion with so much fuel
-- `Keeps`: what each operation sends, by what it names
-- `Covered`: a place that an entry leads to whose need is within that of the mark
-- `Standing`, `Runs`: what a turn and a message leave of threads and marks, by the operations and the messages; runs,
--     by induction on the events
mod Covered
mod Keeps
pub mod Needs
mod OneRefusal
mod Runs
mod SoundOrRefused
mod Standing
pub mod Walks
pub mod Within
