use Rattle.std.proofs.Common.{◌≡◌, take}
use Rattle.std.specs.Prelude.{map}
use Rattle.jif_tree.specs.Store.{starting_row}
use Rattle.jif_tree.proofs.store.Store.starting.Given as goal

-- the rows so far are those of the fields so far
abbrev pub invariant-loop-field : goal.invariant-loop-field
invariant-loop-field l = l.rows.items ≡ map starting_row (take l.field-index l.program.fields.items)
