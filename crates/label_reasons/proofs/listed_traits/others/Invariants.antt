use Rattle.std.proofs.Common.{◌≡◌, take, filter}
use Rattle.label_reasons.specs.Listed.{is_of_another}
use Rattle.label_reasons.proofs.listed_traits.others.Given as goal

-- those of the first that pass are kept
abbrev pub invariant-loop-held : goal.invariant-loop-held
invariant-loop-held l = l.others.items ≡ filter (is_of_another l.principals) (take l.held-index l.pairs)
