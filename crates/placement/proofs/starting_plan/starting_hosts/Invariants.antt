use Rattle.std.proofs.Common.{take}
use Rattle.std.specs.List.{AllZip}
use Rattle.placement.specs.Starting.{StartsOn}
use Rattle.placement.proofs.starting_plan.starting_hosts.Given as goal

-- they are the hosts for the words so far
abbrev pub invariant-loop-word : goal.invariant-loop-word
invariant-loop-word l = AllZip (StartsOn l.preferred.0) (take l.word-index l.words) l.hosts.items
