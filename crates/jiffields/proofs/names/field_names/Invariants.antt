use Rattle.std.proofs.Common.{◌≡◌, map, string_bytes, take}
use Rattle.jiffields.proofs.names.field_names.Given as goal

-- the names so far
abbrev pub invariant-loop-field : goal.invariant-loop-field
invariant-loop-field l = map string_bytes l.names.items ≡ map (λ field. field.name) (take l.field-index l.fields)
