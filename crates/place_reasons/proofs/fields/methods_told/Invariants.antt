use Rattle.std.proofs.Common.{◌≡◌, ◌<◌, length, take}
use Rattle.js_base.specs.declared.ids.FieldId.{FieldId}
use Rattle.jif_tree.specs.Trees.{method_tree}
use Rattle.need_labels.specs.Labelled.{labelled_of}
use Rattle.place_reasons.specs.Firsts.{first_some, or_first}
use Rattle.place_reasons.specs.Reasons.{method_told}
use Rattle.place_reasons.specs.Search.{told_for}
use Rattle.place_reasons.proofs.fields.methods_told.Given as goal

-- what was told is what was told before, and otherwise what the methods so far tell
abbrev pub invariant-loop-method : goal.invariant-loop-method
invariant-loop-method l = (field : FieldId) → field.0 < length l.fn.found →
    told_for l.found field ≡ or_first (told_for l.fn.found field)
    (first_some (λ method. method_told l.search.principals.now (labelled_of l.search.checked.now) l.host field
    (method_tree method)) (take l.method-index l.search.checked.now.program.methods.items))
