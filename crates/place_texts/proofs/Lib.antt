-- `LinesDue`: that a part has a line for a host exactly where the host may not hold it
-- `PartsOf`: the parts of a program, put together one by one
-- `PartReasons`: that parts have the reasons of the program by their numbers, and are parts of it
-- `Statements`: the number and the line of a statement
-- `ToldHosts`: what the reads of a program tell its hosts, host by host
pub mod LinesDue
pub mod PartsOf
pub mod PartReasons
pub mod Statements
pub mod ToldHosts
