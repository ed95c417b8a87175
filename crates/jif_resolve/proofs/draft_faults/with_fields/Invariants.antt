use Rattle.std.proofs.Common.{◌≡◌, map, take}
use Rattle.std.specs.List.{flat_map}
use Rattle.jif_grammar.specs.DraftShapes.{field_shape}
use Rattle.jif_resolve.specs.Faults.{label_faults}
use Rattle.jif_resolve.specs.First.{with_faults}
use Rattle.jif_resolve.proofs.draft_faults.with_fields.Given as goal

-- the fields so far
abbrev pub invariant-loop-field : goal.invariant-loop-field
invariant-loop-field l =
    l.sooner_one
    ≡ with_faults l.fn.first
    (flat_map (λ field. label_faults l.principals field.label) (map field_shape (take l.field-index l.fields)))
