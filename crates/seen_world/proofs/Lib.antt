-- `SeeingHosts`: the test, made from the labels of a code
-- `SeenPlaces`: what may be seen at places and entries
-- `SeenWorlds`: what is readable and secret in a world, by the test
-- `Sendings`: a property of all that an instruction may send holds of what its turn sends
-- `SecretTurns`: whom a secret turn sends something
-- `PointsAtStart`, `TurnsKept`, `TakesKept`: what holds of threads and stacks, at the start, after a turn and after a
--     take, one kind of instruction or message after another
-- `SentWell`, `TokensTold`: the token in what a turn sends may be held where it comes to, and misbehaving hosts are
--     sent no hidden one
-- `Answered`: the same of answers, and what a misbehaving host can make a host take
-- `LabelsSent`, `Granted`, `SecretSets`: the labels of what is sent, that requests pass their checks, and what a
--     message sets whose label may not be seen
-- `FlightsKept`, `PointsKept`: every event keeps what holds of hosts, of messages in flight and of tokens that
--     misbehaving hosts were sent
pub mod SeeingHosts
pub mod SeenPlaces
pub mod SeenWorlds
pub mod Sendings
pub mod SecretTurns
pub mod PointsAtStart
pub mod TurnsKept
pub mod TakesKept
pub mod SentWell
pub mod Answered
pub mod TokensTold
pub mod LabelsSent
pub mod Granted
pub mod SecretSets
pub mod FlightsKept
pub mod PointsKept
