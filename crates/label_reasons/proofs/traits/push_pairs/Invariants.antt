use Rattle.std.proofs.Common.{◌≡◌, ◌++◌, map}
use Rattle.std.specs.List.{range_with_len}
use Rattle.label_reasons.specs.declared.reason.Trait.TheVariants.{Keeps}
use Rattle.label_reasons.proofs.traits.push_pairs.Given as goal

-- the pairs with the readers so far are added
abbrev pub invariant-loop-reader : goal.invariant-loop-reader
invariant-loop-reader l =
    l.pairs.items ≡ l.fn.pairs.items ++ map (λ reader. Keeps l.owner reader) (range_with_len 0 l.reader)
