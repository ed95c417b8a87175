-- What bytes say, or why they say nothing.
use Rattle.std.proofs.Common.{◌≡◌, ◌≢◌, ◌⊎◌, ℕ, zero, suc, ◌+◌, ◌-◌, ◌<◌, ◌≤◌, ◌==◌, ℤ, Bool, true, false}
use Rattle.std.proofs.Common.{if◌then◌else◌, List, [], ◌∷◌, map}
use Rattle.std.proofs.Common.{length, drop, Option, Some, None, Result, Ok, Err, refl, inl, inr, arith, length-drop}
use Rattle.std.specs.Prelude.{is_some, ⊤}
use Rattle.std.specs.List.{position_or_len}
use Rattle.std.specs.Str.Lines.{lines}
use Rattle.std.proofs.lemmas.Bool.{cases_Bool, cases_lt}
use Rattle.js_base.specs.declared.limits.TheConstants.{SCRIPT_BYTES}
use Rattle.host_code.specs.Code.{CodeShape, CodeHostShape}
use Rattle.event_text.specs.declared.event.Event.{Event}
use Rattle.event_text.specs.declared.script.EventsError.{EventsError}
use Rattle.event_text.specs.declared.script.EventsError.TheVariants.{OutOfMemory, BadLine, TooLong}
use Rattle.event_text.specs.Lines.{LineShape, line_of, words, is_skipped, said_from, said_lines}
use Rattle.event_text.specs.Events.{event_of, with_event, events_of}
use Rattle.event_text.specs.Misbehaving.{bad_of, bad_in_front, past_bad, with_hosts}
use Rattle.event_text.specs.Settings.{FieldForm, form_of, setting_of, settings_in_front, past_settings, starting_rows}
use Rattle.event_text.specs.Settings.{after_settings}
use Rattle.event_text.specs.Script.{ScriptShape, with_start, script_of, EventsFail}
use Rattle.event_text.specs.Start.{start_where_left, start_of, StartFails}
use Rattle.event_text.proofs.Fronts.{lines-last, lines-first}

-- ---- one or the other

not_bad_line : (line : ℕ) → BadLine line ≢ OutOfMemory
not_bad_line line is = cc

not_too_long : TooLong ≢ OutOfMemory
not_too_long is = cc

pub some_script : (code : CodeShape) (bytes : List ℕ) →
    ((script : ScriptShape) × (length bytes ≤ SCRIPT_BYTES) × (script_of code bytes ≡ Ok script))
    ⊎ ((why : EventsError) × (why ≢ OutOfMemory) × EventsFail code bytes why)
some_script code bytes = elim (cases_lt SCRIPT_BYTES (length bytes)) [
  | inl more ↦ inr (TooLong, not_too_long, more)
  | inr few ↦ by (script_of code bytes) refl few
]
  where
    by : (said : Result ScriptShape ℕ) → script_of code bytes ≡ said → length bytes ≤ SCRIPT_BYTES →
        ((script : ScriptShape) × (length bytes ≤ SCRIPT_BYTES) × (script_of code bytes ≡ Ok script))
        ⊎ ((why : EventsError) × (why ≢ OutOfMemory) × EventsFail code bytes why)
    by (Ok script) is few = inl (script, few, is)
    by (Err line) is few = inr (BadLine line, not_bad_line line, (few, is))

pub some_start : (fields : List FieldForm) (bytes : List ℕ) →
    ((start : List (List ℤ)) × (length bytes ≤ SCRIPT_BYTES) × (start_of fields bytes ≡ Ok start))
    ⊎ ((why : EventsError) × (why ≢ OutOfMemory) × StartFails fields bytes why)
some_start fields bytes = elim (cases_lt SCRIPT_BYTES (length bytes)) [
  | inl more ↦ inr (TooLong, not_too_long, more)
  | inr few ↦ by (start_of fields bytes) refl few
]
  where
    by : (said : Result (List (List ℤ)) ℕ) → start_of fields bytes ≡ said → length bytes ≤ SCRIPT_BYTES →
        ((start : List (List ℤ)) × (length bytes ≤ SCRIPT_BYTES) × (start_of fields bytes ≡ Ok start))
        ⊎ ((why : EventsError) × (why ≢ OutOfMemory) × StartFails fields bytes why)
    by (Ok start) is few = inl (start, few, is)
    by (Err line) is few = inr (BadLine line, not_bad_line line, (few, is))

-- ---- the numbers of lines

place_within : (p : ℕ → Bool) (xs : List ℕ) → position_or_len p xs ≤ length xs
place_within p [] = omega arith
place_within p (x ∷ xs) = elim (cases_Bool (p x)) [
  | inl here ↦ rw here (omega arith)
  | inr later ↦ rw later (omega (arith, place_within p xs))
]

-- no more lines than bytes
few_lines : (room : ℕ) (bytes : List ℕ) → length bytes ≤ room → length (lines bytes) ≤ length bytes
few_lines room [] within = omega arith
few_lines zero (byte ∷ bytes) within = absurd (omega arith)
few_lines (suc room) (byte ∷ bytes) within =
    let whole : List ℕ = byte ∷ bytes in
    let end = position_or_len (λ next. next == 10) whole in
    let some : 0 < length whole = omega arith in
    elim (cases_lt end (length whole)) [
      | inl more ↦
          let rest : List ℕ = drop (end + 1) whole in
          let left : length rest ≡ length whole - (end + 1) = length-drop (end + 1) whole in
          rw (lines-first whole end refl more) (omega (arith, few_lines room rest (omega arith)))
      | inr all ↦
          rw (lines-last whole end refl (omega (arith, place_within (λ next. next == 10) whole)) some) some
    ]

-- the lines have numbers from the first to the last of these
abbrev AreWithin : ℕ → ℕ → List LineShape → Type 0
AreWithin low high [] = ⊤
AreWithin low high (line ∷ others) = (low ≤ line.number) × (line.number ≤ high) × AreWithin low high others

said_or : (skipped : Bool) (low high : ℕ) (line : LineShape) (others : List LineShape) → low ≤ line.number →
    line.number ≤ high → AreWithin low high others →
    AreWithin low high (if skipped then others else line ∷ others)
said_or true low high line others above below rest = rest
said_or false low high line others above below rest = (above, below, rest)

said_within : (low high number : ℕ) (texts : List (List ℕ)) → low ≤ number → number + length texts ≤ high + 1 →
    AreWithin low high (said_from number texts)
said_within low high number [] above below = tt
said_within low high number (text ∷ texts) above below =
    said_or (is_skipped (words text)) low high (line_of number text) (said_from (number + 1) texts) above (omega arith)
    (said_within low high (number + 1) texts (omega arith) (omega arith))

past_or : (set : Bool) (low high : ℕ) (past : List LineShape) (line : LineShape) (others : List LineShape) →
    AreWithin low high (line ∷ others) → AreWithin low high past →
    AreWithin low high (if set then past else line ∷ others)
past_or true low high past line others all rest = rest
past_or false low high past line others all rest = all

past_within : (low high : ℕ) (fields : List FieldForm) (said : List LineShape) → AreWithin low high said →
    AreWithin low high (past_settings fields said)
past_within low high fields [] all = tt
past_within low high fields (line ∷ others) all =
    past_or (is_some (setting_of fields line.words)) low high (past_settings fields others) line others all
    (past_within low high fields others all.2)

-- what is said of a text
all_within : (bytes : List ℕ) → AreWithin 1 (length bytes) (said_lines bytes)
all_within bytes = said_within 1 (length bytes) 1 (lines bytes) (omega arith)
    (omega (arith, few_lines (length bytes) bytes (omega arith)))

-- ---- the bad line

with_event_bad : (number line low high : ℕ) (event : Option Event) (others : Result (List (ℕ × Event)) ℕ) →
    low ≤ number → number ≤ high → (others ≡ Err line → (low ≤ line) × (line ≤ high)) →
    with_event number event others ≡ Err line → (low ≤ line) × (line ≤ high)
with_event_bad number line low high None others above below rest is =
    let here : number ≡ line = cc in (omega arith, omega arith)
with_event_bad number line low high (Some event) (Ok events) above below rest is = absurd cc
with_event_bad number line low high (Some event) (Err other) above below rest is = rest is

bad_event : (low high line : ℕ) (code : CodeShape) (bad : ℕ) (said : List LineShape) → AreWithin low high said →
    events_of code bad said ≡ Err line → (low ≤ line) × (line ≤ high)
bad_event low high line code bad [] all is = absurd cc
bad_event low high line code bad (next ∷ others) all is =
    with_event_bad next.number line low high (event_of code bad next.words) (events_of code bad others) all.0 all.1
    (bad_event low high line code bad others all.2) is

no_events : (bad : ℕ) (start : List (List ℤ)) (events : Result (List (ℕ × Event)) ℕ) (line : ℕ) →
    with_start bad start events ≡ Err line → events ≡ Err line
no_events bad start (Ok events) line is = absurd cc
no_events bad start (Err other) line is = cc

bad_within : (low high : ℕ) (hosts : List CodeHostShape) (said : List LineShape) → AreWithin low high said →
    AreWithin low high (past_bad hosts said)
bad_within low high hosts [] all = tt
bad_within low high hosts (line ∷ others) all =
    past_or (is_some (bad_of hosts line.words)) low high (past_bad hosts others) line others all
    (bad_within low high hosts others all.2)

pub script_line : (code : CodeShape) (bytes : List ℕ) (line : ℕ) → script_of code bytes ≡ Err line →
    (1 ≤ line) × (line ≤ length bytes)
script_line code bytes line is =
    let fields = map form_of code.fields in
    let bad = with_hosts 0 (bad_in_front code.hosts (said_lines bytes)) in
    let said = past_bad code.hosts (said_lines bytes) in
    let left = past_settings fields said in
    let behind = bad_within 1 (length bytes) code.hosts (said_lines bytes) (all_within bytes) in
    bad_event 1 (length bytes) line code bad left (past_within 1 (length bytes) fields said behind)
    (no_events bad (after_settings (starting_rows fields) (settings_in_front fields said)) (events_of code bad left)
    line is)

left_over : (low high line : ℕ) (start : List (List ℤ)) (left : List LineShape) → AreWithin low high left →
    start_where_left start left ≡ Err line → (low ≤ line) × (line ≤ high)
left_over low high line start [] all is = absurd cc
left_over low high line start (next ∷ others) all is =
    let here : next.number ≡ line = cc in (omega (arith, all.0), omega (arith, all.1))

pub start_line : (fields : List FieldForm) (bytes : List ℕ) (line : ℕ) → start_of fields bytes ≡ Err line →
    (1 ≤ line) × (line ≤ length bytes)
start_line fields bytes line is =
    let said = said_lines bytes in
    left_over 1 (length bytes) line (after_settings (starting_rows fields) (settings_in_front fields said))
    (past_settings fields said) (past_within 1 (length bytes) fields said (all_within bytes)) is
