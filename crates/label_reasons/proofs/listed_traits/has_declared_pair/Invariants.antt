use Rattle.std.proofs.Common.{◌≡◌, false, take}
use Rattle.std.specs.List.{list_any}
use Rattle.label_reasons.specs.Listed.{is_declared_pair_of}
use Rattle.label_reasons.proofs.listed_traits.has_declared_pair.Given as goal

-- none so far passes
abbrev pub invariant-loop-held : goal.invariant-loop-held
invariant-loop-held l = list_any (is_declared_pair_of l.owner) (take l.held-index l.pairs) ≡ false
