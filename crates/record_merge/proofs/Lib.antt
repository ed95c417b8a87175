-- `Spent`: a step of a host leaves no thread running, or sends nothing, one instruction and message after another
-- `Singles`, `Beginnings`: so at most one thread runs or one message is in flight after each event, and at the start
-- `NotedRuns`: an event has one note, and of two lists one begins with the other
-- `OneMeeting`, `OneLeft`: whole journals are met by at most one list, and are left at one line
-- `Furthest`: no list comes further than one at its end
-- `NextNotes`: what an event notes is found in the worlds before it and after it
-- `FirstFlights`: the first message in flight, and its line
-- `Walks`, `HeldJournals`: journals that are met by one event more, how that ends, and why it ends; and the same of the
--     program's journals
-- `Merged`: what is answered at the end
-- `ReadJournals`, `OneMerge`: journals that are read one after the other; and that their bytes are merged into one
--     list, or not merged for one cause
pub mod Spent
pub mod Singles
pub mod Beginnings
pub mod NotedRuns
pub mod OneMeeting
pub mod OneLeft
pub mod Furthest
pub mod NextNotes
pub mod FirstFlights
pub mod Walks
pub mod HeldJournals
pub mod Merged
pub mod ReadJournals
pub mod OneMerge
