use Rattle.std.proofs.Common.{◌≡◌, ◌<◌, length, drop}
use Rattle.js_base.specs.declared.ids.FieldId.{FieldId}
use Rattle.jif_tree.specs.Trees.{block_tree}
use Rattle.place_reasons.specs.Firsts.{or_first}
use Rattle.place_reasons.specs.Reasons.{block_told}
use Rattle.place_reasons.specs.Search.{site_is, told_for}
use Rattle.place_reasons.proofs.told.+blocks.Given as goal

-- what was told, and otherwise what is left tells, is what all tell
abbrev pub invariant-block_told-loop-statement : goal.invariant-block_told-loop-statement
invariant-block_told-loop-statement l = (wanted : FieldId) → wanted.0 < length l.fn.found →
    or_first (told_for l.found wanted)
    (block_told (site_is l.site) wanted (block_tree (drop l.statement-index l.statements)))
    ≡ or_first (told_for l.fn.found wanted) (block_told (site_is l.site) wanted (block_tree l.statements))
