use Rattle.std.proofs.Common.{◌≡◌}
use Rattle.jiffields.specs.Fields.{elements_of}
use Rattle.jiffields.proofs.fields.elements_of.Given as goal

-- the elements so far
abbrev pub invariant-loop-index : goal.invariant-loop-index
invariant-loop-index l = l.row.items ≡ elements_of l.host.stores.rows l.field.0 l.index
