use Rattle.std.proofs.Common.{take}
use Rattle.place_rules.specs.PlaceRules.{IsWordOf, MayHoldStatement}
use Rattle.place_rules.proofs.holders.holders_of_statement.Given as goal

-- it is the word of the hosts so far
abbrev pub invariant-loop-place : goal.invariant-loop-place
invariant-loop-place l = IsWordOf (MayHoldStatement (l.used, l.need)) (take l.place l.hosts) l.word
