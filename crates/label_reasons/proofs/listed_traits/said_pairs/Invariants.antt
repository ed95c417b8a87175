use Rattle.std.proofs.Common.{◌≡◌, not, take, filter}
use Rattle.label_reasons.specs.Listed.{goes_without_saying}
use Rattle.label_reasons.proofs.listed_traits.said_pairs.Given as goal

-- those of the first that pass are kept
abbrev pub invariant-loop-held : goal.invariant-loop-held
invariant-loop-held l = l.said.items ≡ filter (λ pair. not (goes_without_saying l.pairs pair)) (take l.held-index l.pairs)
