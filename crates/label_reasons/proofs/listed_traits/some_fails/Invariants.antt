use Rattle.std.proofs.Common.{◌≡◌, false, take}
use Rattle.std.specs.List.{list_any}
use Rattle.label_reasons.specs.Reasons.{fails_in, constraint_of}
use Rattle.label_reasons.proofs.listed_traits.some_fails.Given as goal

-- none so far passes
abbrev pub invariant-loop-held : goal.invariant-loop-held
invariant-loop-held l = list_any (fails_in l.principals (constraint_of l.authority l.demand)) (take l.held-index l.traits) ≡ false
