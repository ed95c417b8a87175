use Rattle.std.proofs.Common.{◌≡◌, ◌∷◌, ◌++◌, take}
use Rattle.std.specs.Fmt.{signed_decimal}
use Rattle.std.specs.List.{flat_map}
use Rattle.std.specs.String.{string_bytes}
use Rattle.run_sheet.proofs.fields.push_others.Given as goal

-- the elements so far were added
abbrev pub invariant-loop-element : goal.invariant-loop-element
invariant-loop-element l =
    string_bytes l.text ≡ string_bytes l.initial.text ++ flat_map (λ element. 32 ∷ signed_decimal element)
    (take l.element-index l.elements)
