use Rattle.std.proofs.Common.{◌≡◌, ◌++◌, map}
use Rattle.std.specs.List.{range_with_len}
use Rattle.place_texts.specs.Parts.{field, part_shape}
use Rattle.place_texts.proofs.part.push_fields.Given as goal

-- the fields so far
abbrev pub invariant-loop-number : goal.invariant-loop-number
invariant-loop-number l =
    map part_shape l.all.items
    ≡ map part_shape l.fn.all.items ++ map (λ number. field (record { 0 = number })) (range_with_len 0 l.number)
