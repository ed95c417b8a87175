-- Each event of a script is said by a line.
use Rattle.std.proofs.Common.{◌≡◌, ◌+◌, ℕ, ℤ, Bool, true, false, List, [], ◌∷◌, map, Option, Some, None, Result, Ok, Err, refl}
use Rattle.std.proofs.Common.{subst, sym, All}
use Rattle.std.specs.Prelude.{if◌then◌else◌, is_some}
use Rattle.std.specs.List.{AllByRecursion}
use Rattle.std.specs.Str.Lines.{lines}
use Rattle.std.proofs.lemmas.List.Elements.{All-from_recursion}
use Rattle.host_code.specs.Code.{CodeShape}
use Rattle.event_text.specs.declared.event.Event.{Event}
use Rattle.event_text.specs.EventText.{IsSaid}
use Rattle.event_text.specs.Events.{event_of, with_event, events_of}
use Rattle.event_text.specs.Lines.{LineShape, line_of, words, is_skipped, said_from, said_lines}
use Rattle.event_text.specs.Misbehaving.{bad_of, bad_in_front, past_bad, with_hosts}
use Rattle.event_text.specs.Script.{ScriptShape, with_start, script_of}
use Rattle.event_text.specs.Settings.{FieldForm, form_of, setting_of, past_settings, settings_in_front, starting_rows}
use Rattle.event_text.specs.Settings.{after_settings}

-- its words are those of a text
abbrev HasText : LineShape → Type 0
HasText line = (text : List ℕ) × (words text ≡ line.words)

abbrev HaveTexts : List LineShape → Type 0
HaveTexts said = AllByRecursion HasText said

either_text : (skipped : Bool) (first second : List LineShape) → HaveTexts first → HaveTexts second →
    HaveTexts (if skipped then first else second)
either_text true first second one two = one
either_text false first second one two = two

said_text : (number : ℕ) (texts : List (List ℕ)) → HaveTexts (said_from number texts)
said_text number [] = tt
said_text number (text ∷ texts) =
    let rest = said_text (number + 1) texts in
    either_text (is_skipped (words text)) (said_from (number + 1) texts)
    (line_of number text ∷ said_from (number + 1) texts) rest ((text, refl), rest)

past_bad_text : (code : CodeShape) (said : List LineShape) → HaveTexts said → HaveTexts (past_bad code.hosts said)
past_bad_text code [] all = tt
past_bad_text code (line ∷ others) all =
    either_text (is_some (bad_of code.hosts line.words)) (past_bad code.hosts others) (line ∷ others)
    (past_bad_text code others all.1) all

past_settings_text : (fields : List FieldForm) (said : List LineShape) → HaveTexts said →
    HaveTexts (past_settings fields said)
past_settings_text fields [] all = tt
past_settings_text fields (line ∷ others) all =
    either_text (is_some (setting_of fields line.words)) (past_settings fields others) (line ∷ others)
    (past_settings_text fields others all.1) all

module _ (code : CodeShape) (word : ℕ) where
  abbrev AreSaid : List (ℕ × Event) → Type 0
  AreSaid events = AllByRecursion (λ one. IsSaid code word one.1) events

  with_said : (number : ℕ) (found : Option Event) (others : Result (List (ℕ × Event)) ℕ) (said : List (ℕ × Event)) →
      ((event : Event) → found ≡ Some event → IsSaid code word event) →
      ((events : List (ℕ × Event)) → others ≡ Ok events → AreSaid events) →
      with_event number found others ≡ Ok said → AreSaid said
  with_said number None others said first rest is = absurd cc
  with_said number (Some event) (Ok events) said first rest is =
      let same : ◌≡◌ {A = List (ℕ × Event)} ((number, event) ∷ events) said = cc in
      subst AreSaid same (first event refl, rest events refl)
  with_said number (Some event) (Err line) said first rest is = absurd cc

  line_said : (line : LineShape) → HasText line → (event : Event) → event_of code word line.words ≡ Some event →
      IsSaid code word event
  line_said line (text, same) event is =
      (text, subst (λ (ws : List (List ℕ)). event_of code word ws ≡ Some event) (sym same) is)

  lines_said : (lines : List LineShape) → HaveTexts lines → (said : List (ℕ × Event)) →
      events_of code word lines ≡ Ok said → AreSaid said
  lines_said [] texts said is = let same : ◌≡◌ {A = List (ℕ × Event)} [] said = cc in subst AreSaid same tt
  lines_said (line ∷ lines) texts said is =
      with_said line.number (event_of code word line.words) (events_of code word lines) said
      (line_said line texts.0) (λ events found. lines_said lines texts.1 events found) is

pub events_said : (code : CodeShape) (bytes : List ℕ) (script : ScriptShape) → script_of code bytes ≡ Ok script →
    All (λ one. IsSaid code script.bad one.1) script.events
events_said code bytes script is =
    by (events_of code word (past_settings fields behind)) refl is
  where
    fields : List FieldForm
    fields = map form_of code.fields

    word : ℕ
    word = with_hosts 0 (bad_in_front code.hosts (said_lines bytes))

    behind : List LineShape
    behind = past_bad code.hosts (said_lines bytes)

    texts : HaveTexts (past_settings fields behind)
    texts = past_settings_text fields behind (past_bad_text code (said_lines bytes) (said_text 1 (lines bytes)))

    start : List (List ℤ)
    start = after_settings (starting_rows fields) (settings_in_front fields behind)

    by : (found : Result (List (ℕ × Event)) ℕ) → events_of code word (past_settings fields behind) ≡ found →
        with_start word start found ≡ Ok script → All (λ one. IsSaid code script.bad one.1) script.events
    by (Ok events) read made =
        let whole : ScriptShape = record { bad = word; start = start; events = events } in
        let same : whole ≡ script = cc in
        subst (λ (it : ScriptShape). All (λ one. IsSaid code it.bad one.1) it.events) same
        (All-from_recursion (λ (one : ℕ × Event). IsSaid code word one.1) events
        (lines_said code word (past_settings fields behind) texts events read))
    by (Err line) read made = absurd cc
