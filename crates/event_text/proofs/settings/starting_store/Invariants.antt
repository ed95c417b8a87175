use Rattle.std.proofs.Common.{◌≡◌, map, take}
use Rattle.event_text.specs.Settings.{starting_rows}
use Rattle.event_text.proofs.settings.starting_store.Given as goal

-- the rows of the fields so far
abbrev pub invariant-loop-field : goal.invariant-loop-field
invariant-loop-field g l = l.rows.items ≡ starting_rows (map g.F.ScriptField.form (take l.field-index l.fields))
