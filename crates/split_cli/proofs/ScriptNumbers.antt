-- The numbers of a script have 64 bits: those that misbehaving hosts send, and what the fields start with.
use Rattle.std.proofs.Common.{◌≡◌, ℕ, ◌-◌, ◌^◌, ◌<◌, ◌≤◌, ◌==◌, ℤ, pos, negsuc, Bool, true, false, not, ◌&&◌}
use Rattle.std.proofs.Common.{List, [], ◌∷◌, length, map, Option, Some, None, Result, Ok, Err, refl, sym, subst, inl, inr}
use Rattle.std.proofs.Common.{arith}
use Rattle.std.specs.Prelude.{All, nat_lt, nat_le, if◌then◌else◌, replicate, slice_get, codes}
use Rattle.std.specs.List.{AllByRecursion}
use Rattle.std.specs.Str.{bytes_eq}
use Rattle.std.proofs.lemmas.Bool.{and_parts}
use Rattle.std.proofs.lemmas.Bool.Decides.{nat_tests}
use Rattle.std.proofs.lemmas.List.Elements.{All-map, All-weaker, All-replicate, All-from_recursion}
use Rattle.jif_tree.specs.Numbers.{IsNumber}
use Rattle.jif_tree.specs.Trees.{FieldTree}
use Rattle.host_code.specs.declared.riders.TheConstants.{MOST_RIDERS}
use Rattle.host_code.specs.Code.{CodeShape}
use Rattle.host_code.specs.Riders.{Rider, riders_from}
use Rattle.event_text.specs.declared.event.Event.{Event}
use Rattle.event_text.specs.declared.event.Event.TheVariants.{Take, Turn, Act}
use Rattle.event_text.specs.declared.event.BadMessage.{BadMessage}
use Rattle.event_text.specs.declared.event.BadMessage.TheVariants as bad
use Rattle.event_text.specs.declared.settings.Setting.{Setting}
use Rattle.event_text.specs.Acts.{get_of, set_of, forward_of, sync_of, rgoto_of, lgoto_of, value_of, ack_of, answer_of}
use Rattle.event_text.specs.Acts.{rider_of, riders_in, rgoto_with_of, message_of}
use Rattle.event_text.specs.Events.{turn_of, take_of, act_of, event_of, with_event, events_of}
use Rattle.event_text.specs.Lines.{LineShape, said_lines}
use Rattle.event_text.specs.Misbehaving.{bad_in_front, past_bad, with_hosts}
use Rattle.event_text.specs.Numbers.{number_of, signed_of, not_below_zero, below_zero}
use Rattle.event_text.specs.Script.{ScriptShape, script_of, with_start}
use Rattle.event_text.specs.Settings.{FieldForm, form_of, field_named, setting_at, of_plain, of_element, plain_setting}
use Rattle.event_text.specs.Settings.{element_setting, setting_of, and_settings, settings_in_front, past_settings}
use Rattle.event_text.specs.Settings.{starting_rows, after_setting, after_settings}
use Rattle.event_text.specs.Words.{Word, one_word, two_words, three_words, four_words, or_else}
use Rattle.event_text.proofs.MadeParts.{mapped, then_made, either_made, two_made, three_made, four_made}
use Rattle.token_laws.specs.Numbers.{RowsHaveNumbers, MadeHasNumbers, EventHasNumbers}
use Rattle.token_laws.proofs.ValueNumbers.{written_fits}
use Rattle.net_world.specs.Replay.{events_in}

-- ---- numbers

not_below : (size : Option ℕ) (value : ℤ) → not_below_zero size ≡ Some value → IsNumber value
not_below None value is = absurd cc
not_below (Some size) value is = elim (either_made (nat_lt size (2 ^ 63)) (Some (pos size)) None value is) [
  | inl (holds, made) ↦
      let same : pos size ≡ value = cc in
      let small : size < 2 ^ 63 = grind (arith, nat_tests) in
      let fits : IsNumber (pos size) = record { sfits = small } in
      subst IsNumber same fits
  | inr (fails, none) ↦ absurd cc
]

below : (size : Option ℕ) (value : ℤ) → below_zero size ≡ Some value → IsNumber value
below None value is = absurd cc
below (Some size) value is =
    elim (either_made (nat_lt 0 size && nat_le size (2 ^ 63)) (Some (negsuc (size - 1))) None value is) [
      | inl (holds, made) ↦
          let same : negsuc (size - 1) ≡ value = cc in
          let (some, few) = and_parts (nat_lt 0 size) (nat_le size (2 ^ 63)) holds in
          let least : 0 < size = grind (arith, nat_tests) in
          let most : size ≤ 2 ^ 63 = grind (arith, nat_tests) in
          let fits : IsNumber (negsuc (size - 1)) = record { sfits = omega (arith, least, most) } in
          subst IsNumber same fits
      | inr (fails, none) ↦ absurd cc
    ]

signed_has : (word : Word) (value : ℤ) → signed_of word ≡ Some value → IsNumber value
signed_has [] value is = absurd cc
signed_has (byte ∷ digits) value is =
    elim (either_made (byte == 45) (below_zero (number_of digits)) (not_below_zero (number_of (byte ∷ digits))) value
    is) [
      | inl (holds, made) ↦ below (number_of digits) value made
      | inr (fails, made) ↦ not_below (number_of (byte ∷ digits)) value made
    ]

-- ---- what misbehaving hosts send

abbrev MadeSmall : Option BadMessage → Type 0
MadeSmall found = (made : BadMessage) → found ≡ Some made → MadeHasNumbers made

module _ (code : CodeShape) (word : ℕ) where
  get_has : (words : List Word) → MadeSmall (get_of code words)
  get_has words made is =
      let (it, there, of) = then_made _ (three_words words) made is in
      let (one, two, three, first, second, third, same) =
      three_made (λ request field index. bad.Get request field index) _ _ _ made of in
      subst MadeHasNumbers same (signed_has it.2 three third)

  set_has : (words : List Word) → MadeSmall (set_of code words)
  set_has words made is =
      let (it, there, of) = then_made _ (four_words words) made is in
      let (one, two, three, four, first, second, third, fourth, same) =
      four_made (λ request field index value. bad.Set request field index value) _ _ _ _ made of in
      subst MadeHasNumbers same (signed_has it.2 three third, signed_has it.3 four fourth)

  forward_has : (words : List Word) → MadeSmall (forward_of code words)
  forward_has words made is =
      let (it, there, of) = then_made _ (four_words words) made is in
      let (one, two, three, four, first, second, third, fourth, same) =
      four_made (λ request frame variable value. bad.Forward request frame variable value) _ _ _ _ made of in
      subst MadeHasNumbers same (signed_has it.3 four fourth)

  sync_has : (words : List Word) → MadeSmall (sync_of code word words)
  sync_has words made is =
      let (it, there, of) = then_made _ (four_words words) made is in
      let (one, two, three, token, first, second, third, fourth, same) =
      four_made (λ request frame entry token. bad.Sync request frame entry token) _ _ _ _ made of in
      subst MadeHasNumbers same tt

  rgoto_has : (words : List Word) → MadeSmall (rgoto_of code word words)
  rgoto_has words made is =
      let (it, there, of) = then_made _ (three_words words) made is in
      let (one, two, token, first, second, third, same) =
      three_made (λ frame entry token. bad.Rgoto frame entry token) _ _ _ made of in
      subst MadeHasNumbers same tt

  riders_have : (words : List Word) (riders : List Rider) → riders_in code words ≡ Some riders →
      AllByRecursion (λ rider. IsNumber rider.1) riders
  riders_have [] riders is =
      let same : ◌≡◌ {A = List Rider} [] riders = cc in
      subst (AllByRecursion (λ (rider : Rider). IsNumber rider.1)) same tt
  riders_have (name ∷ []) riders is = absurd cc
  riders_have (name ∷ value ∷ words) riders is =
      let (rider, others, one, two, same) =
      two_made (λ rider riders. rider ∷ riders) (rider_of code name value) (riders_in code words) riders is in
      let (variable, number, first, second, both) = two_made (λ variable number. (variable, number)) _ _ rider one in
      subst (AllByRecursion (λ (rider : Rider). IsNumber rider.1)) same
      (subst (λ (rider : Rider). IsNumber rider.1) both (signed_has value number second), riders_have words others two)

  few_have : (pairs riders : List Rider) → AllByRecursion (λ rider. IsNumber rider.1) pairs →
      riders_from pairs ≡ Some riders → AllByRecursion (λ rider. IsNumber rider.1) riders
  few_have pairs riders all is =
      elim (either_made (nat_le 1 (length pairs) && nat_le (length pairs) MOST_RIDERS) (Some pairs) None riders is) [
        | inl (holds, same) ↦
            let one : pairs ≡ riders = cc in
            subst (AllByRecursion (λ (rider : Rider). IsNumber rider.1)) one all
        | inr (fails, none) ↦ absurd cc
      ]

  rgoto_with_has : (words : List Word) → MadeSmall (rgoto_with_of code word words)
  rgoto_with_has (frame ∷ entry ∷ token ∷ mark ∷ words) made is =
      elim (either_made (bytes_eq mark (codes "with")) _ None made is) [
        | inl (holds, said) ↦
            let (one, two, three, riders, first, second, third, fourth, same) =
            four_made (λ frame entry token riders. bad.RgotoWith frame entry token riders) _ _ _ _ made said in
            let (pairs, found, few) = then_made riders_from (riders_in code words) riders fourth in
            subst MadeHasNumbers same (few_have pairs riders (riders_have words pairs found) few)
        | inr (fails, none) ↦ absurd cc
      ]
  rgoto_with_has words made is = absurd cc

  or_else_has : (first second : Option BadMessage) → MadeSmall first → MadeSmall second →
      MadeSmall (or_else first second)
  or_else_has (Some one) second has other made is = has made is
  or_else_has None second has other made is = other made is

  lgoto_has : (words : List Word) → MadeSmall (lgoto_of code word words)
  lgoto_has words made is =
      let (it, there, of) = then_made _ (one_word words) made is in
      let (token, first, same) = mapped (λ token. bad.Lgoto token) _ made of in
      subst MadeHasNumbers same tt

  value_has : (words : List Word) → MadeSmall (value_of words)
  value_has words made is =
      let (it, there, of) = then_made _ (two_words words) made is in
      let (one, two, first, second, same) = two_made (λ request value. bad.Value request value) _ _ made of in
      subst MadeHasNumbers same (signed_has it.1 two second)

  ack_has : (words : List Word) → MadeSmall (ack_of words)
  ack_has words made is =
      let (it, there, of) = then_made _ (one_word words) made is in
      let (request, first, same) = mapped (λ request. bad.Ack request) _ made of in
      subst MadeHasNumbers same tt

  answer_has : (words : List Word) → MadeSmall (answer_of code word words)
  answer_has words made is =
      let (it, there, of) = then_made _ (two_words words) made is in
      let (one, token, first, second, same) = two_made (λ request token. bad.Token request token) _ _ made of in
      subst MadeHasNumbers same tt

  or_has : (test : Bool) (first second : Option BadMessage) → MadeSmall first → MadeSmall second →
      MadeSmall (if test then first else second)
  or_has true first second one two made is = one made is
  or_has false first second one two made is = two made is

  none_has : MadeSmall None
  none_has made is = absurd cc

  message_has : (words : List Word) → MadeSmall (message_of code word words)
  message_has [] = none_has
  message_has (kind ∷ words) =
      or_has (bytes_eq kind (codes "get")) _ _ (get_has words)
      (or_has (bytes_eq kind (codes "set")) _ _ (set_has words)
      (or_has (bytes_eq kind (codes "forward")) _ _ (forward_has words)
      (or_has (bytes_eq kind (codes "sync")) _ _ (sync_has words)
      (or_has (bytes_eq kind (codes "rgoto")) _ _ (or_else_has _ _ (rgoto_has words) (rgoto_with_has words))
      (or_has (bytes_eq kind (codes "lgoto")) _ _ (lgoto_has words)
      (or_has (bytes_eq kind (codes "value")) _ _ (value_has words)
      (or_has (bytes_eq kind (codes "ack")) _ _ (ack_has words)
      (or_has (bytes_eq kind (codes "token")) _ _ (answer_has words) none_has))))))))

  -- ---- events

  abbrev EventSmall : Option Event → Type 0
  EventSmall found = (event : Event) → found ≡ Some event → EventHasNumbers event

  turn_has : (words : List Word) → EventSmall (turn_of code.hosts words)
  turn_has words event is =
      let (it, there, of) = then_made _ (one_word words) event is in
      let (host, at, same) = mapped Turn _ event of in
      subst EventHasNumbers same tt

  take_has : (words : List Word) → EventSmall (take_of code.hosts words)
  take_has words event is =
      let (it, there, of) = then_made _ (three_words words) event is in
      let (one, two, three, first, second, third, same) =
      three_made (λ from to place. Take from to place) _ _ _ event of in
      subst EventHasNumbers same tt

  act_has : (words : List Word) → EventSmall (act_of code word words)
  act_has [] event is = absurd cc
  act_has (from ∷ []) event is = absurd cc
  act_has (from ∷ to ∷ said) event is =
      let (one, two, made, first, second, third, same) =
      three_made (λ from to made. Act from to made) _ _ _ event is in
      subst EventHasNumbers same (message_has said made third)

  either_has : (test : Bool) (first second : Option Event) → EventSmall first → EventSmall second →
      EventSmall (if test then first else second)
  either_has true first second one two event is = one event is
  either_has false first second one two event is = two event is

  no_event : EventSmall None
  no_event event is = absurd cc

  event_has : (words : List Word) → EventSmall (event_of code word words)
  event_has [] = no_event
  event_has (verb ∷ words) =
      either_has (bytes_eq verb (codes "turn")) _ _ (turn_has words)
      (either_has (bytes_eq verb (codes "take")) _ _ (take_has words)
      (either_has (bytes_eq verb (codes "act")) _ _ (act_has words) no_event))

  abbrev AreSmall : List (ℕ × Event) → Type 0
  AreSmall said = AllByRecursion (λ one. EventHasNumbers one.1) said

  with_has : (number : ℕ) (found : Option Event) (others : Result (List (ℕ × Event)) ℕ) (said : List (ℕ × Event)) →
      EventSmall found → ((events : List (ℕ × Event)) → others ≡ Ok events → AreSmall events) →
      with_event number found others ≡ Ok said → AreSmall said
  with_has number None others said first rest is = absurd cc
  with_has number (Some event) (Ok events) said first rest is =
      let same : ◌≡◌ {A = List (ℕ × Event)} ((number, event) ∷ events) said = cc in
      subst AreSmall same (first event refl, rest events refl)
  with_has number (Some event) (Err line) said first rest is = absurd cc

  lines_have : (lines : List LineShape) (said : List (ℕ × Event)) → events_of code word lines ≡ Ok said → AreSmall said
  lines_have [] said is = let same : ◌≡◌ {A = List (ℕ × Event)} [] said = cc in subst AreSmall same tt
  lines_have (line ∷ lines) said is =
      with_has line.number (event_of code word line.words) (events_of code word lines) said (event_has line.words)
      (λ events found. lines_have lines events found) is

-- what the events of a script send
pub events_have : (code : CodeShape) (bytes : List ℕ) (script : ScriptShape) → script_of code bytes ≡ Ok script →
    All EventHasNumbers (events_in script.events)
events_have code bytes script is = by (events_of code word (past_settings fields behind)) refl is
  where
    fields : List FieldForm
    fields = map form_of code.fields

    word : ℕ
    word = with_hosts 0 (bad_in_front code.hosts (said_lines bytes))

    behind : List LineShape
    behind = past_bad code.hosts (said_lines bytes)

    start : List (List ℤ)
    start = after_settings (starting_rows fields) (settings_in_front fields behind)

    by : (found : Result (List (ℕ × Event)) ℕ) → events_of code word (past_settings fields behind) ≡ found →
        with_start word start found ≡ Ok script → All EventHasNumbers (events_in script.events)
    by (Ok events) read made =
        let whole : ScriptShape = record { bad = word; start = start; events = events } in
        let same : whole ≡ script = cc in
        subst (λ (it : ScriptShape). All EventHasNumbers (events_in it.events)) same
        (All-map EventHasNumbers (λ (one : ℕ × Event). one.1) events
        (All-from_recursion (λ (one : ℕ × Event). EventHasNumbers one.1) events
        (lines_have code word (past_settings fields behind) events read)))
    by (Err line) read made = absurd cc

-- ---- starting values

abbrev SetsSmall : Option Setting → Type 0
SetsSmall found = (setting : Setting) → found ≡ Some setting → IsNumber setting.value

set_small : (test : Bool) (found : Option Setting) → SetsSmall found → SetsSmall (if test then found else None)
set_small true found small setting is = small setting is
set_small false found small setting is = absurd cc

one_small : (place index : ℕ) (value : ℤ) → IsNumber value → SetsSmall (Some (setting_at place index value))
one_small place index value small setting is =
    let same : setting_at place index value ≡ setting = cc in
    subst (λ (it : Setting). IsNumber it.value) same small

plain_has : (fields : List FieldForm) (place : Option ℕ) (said : Option ℤ) →
    ((value : ℤ) → said ≡ Some value → IsNumber value) → SetsSmall (plain_setting fields place said)
plain_has fields (Some place) (Some value) small setting is =
    let (field, there, made) = then_made (of_plain place value) (slice_get fields place) setting is in
    set_small (not field.array) (Some (setting_at place 0 value)) (one_small place 0 value (small value refl)) setting
    made
plain_has fields (Some place) None small setting is = absurd cc
plain_has fields None said small setting is = absurd cc

element_has : (fields : List FieldForm) (place index : Option ℕ) (said : Option ℤ) →
    ((value : ℤ) → said ≡ Some value → IsNumber value) → SetsSmall (element_setting fields place index said)
element_has fields (Some place) (Some index) (Some value) small setting is =
    let (field, there, made) = then_made (of_element place index value) (slice_get fields place) setting is in
    set_small field.array _
    (set_small (nat_lt index field.size) (Some (setting_at place index value))
    (one_small place index value (small value refl))) setting made
element_has fields (Some place) (Some index) None small setting is = absurd cc
element_has fields (Some place) None said small setting is = absurd cc
element_has fields None index said small setting is = absurd cc

setting_has : (fields : List FieldForm) (words : List Word) → SetsSmall (setting_of fields words)
setting_has fields [] setting is = absurd cc
setting_has fields (verb ∷ []) setting is = absurd cc
setting_has fields (verb ∷ name ∷ []) setting is = absurd cc
setting_has fields (verb ∷ name ∷ value ∷ []) setting is =
    set_small (bytes_eq verb (codes "set")) _
    (plain_has fields (field_named fields name) (signed_of value) (signed_has value)) setting is
setting_has fields (verb ∷ name ∷ index ∷ value ∷ []) setting is =
    set_small (bytes_eq verb (codes "set")) _
    (element_has fields (field_named fields name) (number_of index) (signed_of value) (signed_has value)) setting is
setting_has fields (verb ∷ name ∷ index ∷ value ∷ next ∷ others) setting is = absurd cc

abbrev SetSmall : List Setting → Type 0
SetSmall settings = AllByRecursion (λ setting. IsNumber setting.value) settings

and_has : (found : Option Setting) (others : List Setting) → SetsSmall found → SetSmall others →
    SetSmall (and_settings found others)
and_has None others first rest = tt
and_has (Some setting) others first rest = (first setting refl, rest)

settings_have : (fields : List FieldForm) (lines : List LineShape) → SetSmall (settings_in_front fields lines)
settings_have fields [] = tt
settings_have fields (line ∷ lines) =
    and_has (setting_of fields line.words) (settings_in_front fields lines) (setting_has fields line.words)
    (settings_have fields lines)

rows_have : (rows : List (List ℤ)) (settings : List Setting) → RowsHaveNumbers rows → SetSmall settings →
    RowsHaveNumbers (after_settings rows settings)
rows_have rows [] small set = small
rows_have rows (setting ∷ settings) small set =
    rows_have (after_setting rows setting) settings
    (written_fits rows setting.field.0 (pos setting.index) setting.value small set.0) set.1

fields_have : (fields : List FieldTree) → All (λ field. IsNumber field.first) fields →
    RowsHaveNumbers (map (λ field. replicate field.size field.first) fields)
fields_have fields small =
    All-map (All IsNumber) (λ (field : FieldTree). replicate field.size field.first) fields
    (All-weaker (λ (field : FieldTree). IsNumber field.first)
    (λ (field : FieldTree). All IsNumber (replicate field.size field.first))
    (λ field first. All-replicate IsNumber field.size field.first first) fields small)

-- what fields start with, where those of the program's text have 64 bits
pub starts_have : (fields : List FieldTree) (forms : List FieldForm) (lines : List LineShape) →
    starting_rows forms ≡ map (λ field. replicate field.size field.first) fields →
    All (λ field. IsNumber field.first) fields →
    RowsHaveNumbers (after_settings (starting_rows forms) (settings_in_front forms lines))
starts_have fields forms lines same small =
    rows_have (starting_rows forms) (settings_in_front forms lines)
    (subst RowsHaveNumbers (sym same) (fields_have fields small)) (settings_have forms lines)
