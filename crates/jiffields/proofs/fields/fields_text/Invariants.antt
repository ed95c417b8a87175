use Rattle.std.proofs.Common.{◌≡◌, take}
use Rattle.std.specs.String.{string_bytes}
use Rattle.front_end.specs.Text.{lines_text}
use Rattle.jiffields.specs.Fields.{field_lines}
use Rattle.jiffields.proofs.fields.fields_text.Given as goal

-- the lines of the fields so far
abbrev pub invariant-loop-number : goal.invariant-loop-number
invariant-loop-number l =
    string_bytes l.text ≡ lines_text (field_lines l.me l.host.stores.rows 0 (take l.number l.code.fields))
