-- `BadKeys`: the first bad key of a host file, with its table and the way in which it is bad
-- `HostsTold`: what is told of a host file that is refused
pub mod BadKeys
pub mod HostsTold
