-- `Parts`: the parts of a program that hosts hold
-- `Why`: how it is told why a host may not hold one
-- `Lines`: a line for each part and each host that may not hold it
-- `Meant`: the parts that a word means
-- `Holding`: what is at hand for the lines
-- `LineExamples`: a small program with its tokens
pub mod Parts
pub mod Why
pub mod Lines
pub mod Meant
pub mod Holding
pub mod LineExamples
