use Rattle.std.proofs.Common.{◌≡◌, ◌++◌, drop, map}
use Rattle.std.specs.String.{string_bytes}
use Rattle.event_text.specs.ScriptText.{setting_lines, text_of_lines}
use Rattle.event_text.specs.Settings.{form_of}
use Rattle.jifmerge.proofs.printing.push_settings.Given as goal

-- what was put, and the lines of the fields that are left, make the whole
abbrev pub invariant-loop-place : goal.invariant-loop-place
invariant-loop-place l =
    string_bytes l.text ++ text_of_lines (setting_lines (map form_of (drop l.place l.fields)) (drop l.place l.rows))
    ≡ string_bytes l.initial.text ++ text_of_lines (setting_lines (map form_of l.fields) l.rows)
