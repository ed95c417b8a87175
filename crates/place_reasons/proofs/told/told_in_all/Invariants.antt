use Rattle.std.proofs.Common.{◌≡◌, ◌<◌, length, take}
use Rattle.js_base.specs.declared.ids.FieldId.{FieldId}
use Rattle.jif_tree.specs.Trees.{expr_tree}
use Rattle.place_reasons.specs.Firsts.{or_first, first_some}
use Rattle.place_reasons.specs.Reasons.{told_in}
use Rattle.place_reasons.specs.Search.{site_is, told_for}
use Rattle.place_reasons.proofs.told.told_in_all.Given as goal

-- what was told is what was told before, and otherwise what the expressions so far tell
abbrev pub invariant-loop-value : goal.invariant-loop-value
invariant-loop-value l = (wanted : FieldId) → wanted.0 < length l.fn.found →
    told_for l.found wanted ≡ or_first (told_for l.fn.found wanted)
    (first_some (λ value. told_in (site_is l.site) wanted l.here (expr_tree value)) (take l.value-index l.values))
