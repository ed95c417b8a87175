use Rattle.std.proofs.Common.{◌≡◌, ◌++◌, drop}
use Rattle.std.specs.String.{string_bytes}
use Rattle.event_text.specs.ScriptText.{row_lines, text_of_lines}
use Rattle.event_text.specs.Settings.{form_of}
use Rattle.jifmerge.proofs.printing.push_row.Given as goal

-- what was put, and the lines of the elements that are left, make the whole
abbrev pub invariant-loop-index : goal.invariant-loop-index
invariant-loop-index l =
    string_bytes l.text ++ text_of_lines (row_lines (form_of l.field) l.index (drop l.index l.elements))
    ≡ string_bytes l.initial.text ++ text_of_lines (row_lines (form_of l.field) 0 l.elements)
