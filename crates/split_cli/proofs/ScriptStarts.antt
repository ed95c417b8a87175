-- What the fields of a replayed world start with.
use Rattle.std.proofs.Common.{◌≡◌, ℕ, List, map, Result, Ok, Err, sym, ap}
use Rattle.std.specs.Prelude.{ℤ}
use Rattle.event_text.specs.declared.event.Event.{Event}
use Rattle.event_text.specs.Events.{events_of}
use Rattle.event_text.specs.Lines.{said_lines}
use Rattle.event_text.specs.Misbehaving.{bad_in_front, past_bad, with_hosts}
use Rattle.event_text.specs.Script.{ScriptShape, script_of, with_start}
use Rattle.event_text.specs.Settings.{form_of, past_settings, settings_in_front, starting_rows, after_settings}
use Rattle.host_code.specs.Code.{CodeShape}

script_with : (bad : ℕ) (start : List (List ℤ)) (events : Result (List (ℕ × Event)) ℕ) (said : ScriptShape) →
    with_start bad start events ≡ Ok said → said.start ≡ start
script_with bad start (Ok events) said is =
    let made : ScriptShape = record { bad = bad; start = start; events = events } in
    let same : made ≡ said = cc in
    ap (λ (s : ScriptShape). s.start) (sym same)
script_with bad start (Err line) said is = absurd (let no : ⊥ = cc in no)

-- the fields start with what the script sets
pub script_starts : (code : CodeShape) (bytes : List ℕ) (said : ScriptShape) → script_of code bytes ≡ Ok said →
    let forms = map form_of code.fields in
    said.start ≡ after_settings (starting_rows forms) (settings_in_front forms (past_bad code.hosts (said_lines bytes)))
script_starts code bytes said is =
    let forms = map form_of code.fields in
    let behind = past_bad code.hosts (said_lines bytes) in
    let bad = with_hosts 0 (bad_in_front code.hosts (said_lines bytes)) in
    script_with bad (after_settings (starting_rows forms) (settings_in_front forms behind))
    (events_of code bad (past_settings forms behind)) said is
