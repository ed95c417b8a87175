-- `BadKeys`: one bad key of a file, and some where the file is refused for a key
-- `Tables`: the tables among the items of an array
-- `OneTold`: one thing is told of a refusal, and something is
pub mod BadKeys
pub mod OneTold
pub mod Tables
