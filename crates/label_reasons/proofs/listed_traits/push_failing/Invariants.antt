use Rattle.std.proofs.Common.{◌≡◌, ◌++◌, take, filter}
use Rattle.label_reasons.specs.Reasons.{fails_in, constraint_of}
use Rattle.label_reasons.proofs.listed_traits.push_failing.Given as goal

-- those of the first that pass are kept
abbrev pub invariant-loop-held : goal.invariant-loop-held
invariant-loop-held l = l.failing.items ≡ l.fn.failing.items ++ filter (fails_in l.principals (constraint_of l.authority l.demand)) (take l.held-index l.traits)
