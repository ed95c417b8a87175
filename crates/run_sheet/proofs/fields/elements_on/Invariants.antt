use Rattle.std.proofs.Common.{◌≡◌}
use Rattle.host_core.specs.Host.{state_of}
use Rattle.run_sheet.specs.FieldMarks.{elements_on}
use Rattle.run_sheet.proofs.fields.elements_on.Given as goal

-- the elements so far
abbrev pub invariant-loop-index : goal.invariant-loop-index
invariant-loop-index l = l.elements.items ≡ elements_on (state_of l.host) l.field.0 l.index
