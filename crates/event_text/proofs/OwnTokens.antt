-- The events of a script present what misbehaving hosts were sent, or tokens of such hosts.
use Rattle.std.proofs.Common.{◌≡◌, ◌<◌, ◌==◌, ℕ, Bool, true, false, List, [], ◌∷◌, length, Option, Some, None, Result}
use Rattle.std.proofs.Common.{Ok, Err}
use Rattle.std.proofs.Common.{refl, subst, inl, inr, arith}
use Rattle.std.specs.Prelude.{All, ℤ, map, position, if◌then◌else◌, codes}
use Rattle.std.specs.Int.{bit_at}
use Rattle.std.specs.List.{AllByRecursion}
use Rattle.std.specs.Str.{bytes_eq}
use Rattle.std.proofs.lemmas.Bool.Decides.{nat_tests}
use Rattle.std.proofs.lemmas.List.Elements.{All-from_recursion}
use Rattle.std.proofs.lemmas.List.Quantifiers.{position-Some}
use Rattle.js_base.specs.declared.ids.HostId.{HostId}
use Rattle.host_code.specs.Code.{CodeShape, CodeHostShape}
use Rattle.event_text.specs.declared.event.Event.{Event}
use Rattle.event_text.specs.declared.event.Event.TheVariants.{Take, Turn, Act}
use Rattle.event_text.specs.declared.event.BadMessage.{BadMessage}
use Rattle.event_text.specs.declared.event.BadMessage.TheVariants as bad
use Rattle.event_text.specs.declared.event.BadToken.{BadToken}
use Rattle.event_text.specs.declared.event.BadToken.TheVariants.{Sent}
use Rattle.event_text.specs.Acts.{among, own_token, own_in, token_of, get_of, set_of, forward_of, sync_of, rgoto_of}
use Rattle.event_text.specs.Acts.{rgoto_with_of, lgoto_of, value_of, ack_of, answer_of, message_of}
use Rattle.event_text.specs.Events.{turn_of, take_of, act_of, event_of, with_event, events_of}
use Rattle.event_text.specs.Lines.{LineShape, said_lines}
use Rattle.event_text.specs.Misbehaving.{bad_in_front, past_bad, with_hosts}
use Rattle.event_text.specs.Numbers.{number_of}
use Rattle.event_text.specs.OwnTokens.{IsOwnToken, IsOwnMessage, IsOwnEvent}
use Rattle.event_text.specs.Parts.{host_named, parts, colon}
use Rattle.event_text.specs.Script.{ScriptShape, script_of, with_start}
use Rattle.event_text.specs.Settings.{FieldForm, form_of, settings_in_front, past_settings, starting_rows}
use Rattle.event_text.specs.Settings.{after_settings}
use Rattle.event_text.specs.Words.{Word, one_word, two_words, three_words, four_words, or_else}
use Rattle.event_text.proofs.MadeParts.{mapped, then_made, either_made, two_made, three_made, four_made}

-- ---- tokens

-- a host that is named is one of those
pub named_within : (hosts : List CodeHostShape) (word : Word) (host : HostId) → host_named hosts word ≡ Some host →
    host.0 < length hosts
named_within [] word host is = absurd cc
named_within (first ∷ others) word host is =
    let all : List CodeHostShape = first ∷ others in
    let test : CodeHostShape → Bool = λ host. bytes_eq word host.name in
    let found = mapped (λ n. record { 0 = n }) (position test all) host is in
    let within = (position-Some test all found.0 first found.1).0 in
    subst (λ (one : HostId). one.0 < length all) found.2 within

bit_set : (word : ℕ) (host found : HostId) → among word (Some host) ≡ Some found →
    (bit_at word found.0 ≡ 1) × (host ≡ found)
bit_set word host found is = elim (either_made (bit_at word host.0 == 1) (Some host) None found is) [
  | inl set ↦
      let same : host ≡ found = cc in
      let bit : bit_at word host.0 ≡ 1 = grind (arith, nat_tests) in
      (subst (λ (one : HostId). bit_at word one.0 ≡ 1) same bit, same)
  | inr clear ↦ absurd (let no : ⊥ = cc in no)
]

among_own : (hosts : List CodeHostShape) (word : ℕ) (name : Word) (host : HostId) →
    among word (host_named hosts name) ≡ Some host → (host.0 < length hosts) × (bit_at word host.0 ≡ 1)
among_own hosts word name host is = by (host_named hosts name) refl is
  where
    by : (named : Option HostId) → host_named hosts name ≡ named → among word named ≡ Some host →
        (host.0 < length hosts) × (bit_at word host.0 ≡ 1)
    by None at is = absurd cc
    by (Some one) at is =
        let (bit, same) = bit_set word one host is in
        (subst (λ (it : HostId). it.0 < length hosts) same (named_within hosts name one at), bit)

parts_own : (hosts : List CodeHostShape) (word : ℕ) (words : List Word) (token : BadToken) →
    own_in hosts word words ≡ Some token → IsOwnToken hosts word token
parts_own hosts word [] token is = absurd cc
parts_own hosts word (mark ∷ others) token is =
    elim (either_made (bytes_eq mark (codes "own")) _ None token is) [
      | inl (holds, made) ↦
          let (it, there, of) = then_made _ (four_words others) token made in
          let (host, frame, entry, serial, on, two, three, four, same) = four_made own_token _ _ _ _ token of in
          subst (IsOwnToken hosts word) same (among_own hosts word it.0 host on)
      | inr (fails, none) ↦ absurd cc
    ]

token_own : (hosts : List CodeHostShape) (word : ℕ) (said : Word) (token : BadToken) →
    token_of hosts word said ≡ Some token → IsOwnToken hosts word token
token_own hosts word [] token is = absurd cc
token_own hosts word (byte ∷ bytes) token is =
    elim (either_made (byte == 35) _ (own_in hosts word (parts colon (byte ∷ bytes))) token is) [
      | inl (holds, made) ↦
          let (number, there, same) = mapped (λ n. Sent n) (number_of bytes) token made in
          subst (IsOwnToken hosts word) same tt
      | inr (fails, made) ↦ parts_own hosts word (parts colon (byte ∷ bytes)) token made
    ]

-- ---- messages

module _ (code : CodeShape) (word : ℕ) where
  abbrev Owns : Option BadMessage → Type 0
  Owns found = (made : BadMessage) → found ≡ Some made → IsOwnMessage code.hosts word made

  get_own : (words : List Word) → Owns (get_of code words)
  get_own words made is =
      let (it, there, of) = then_made _ (three_words words) made is in
      let (one, two, three, first, second, third, same) =
      three_made (λ request field index. bad.Get request field index) _ _ _ made of in
      subst (IsOwnMessage code.hosts word) same tt

  set_own : (words : List Word) → Owns (set_of code words)
  set_own words made is =
      let (it, there, of) = then_made _ (four_words words) made is in
      let (one, two, three, four, first, second, third, fourth, same) =
      four_made (λ request field index value. bad.Set request field index value) _ _ _ _ made of in
      subst (IsOwnMessage code.hosts word) same tt

  forward_own : (words : List Word) → Owns (forward_of code words)
  forward_own words made is =
      let (it, there, of) = then_made _ (four_words words) made is in
      let (one, two, three, four, first, second, third, fourth, same) =
      four_made (λ request frame variable value. bad.Forward request frame variable value) _ _ _ _ made of in
      subst (IsOwnMessage code.hosts word) same tt

  sync_own : (words : List Word) → Owns (sync_of code word words)
  sync_own words made is =
      let (it, there, of) = then_made _ (four_words words) made is in
      let (one, two, three, token, first, second, third, fourth, same) =
      four_made (λ request frame entry token. bad.Sync request frame entry token) _ _ _ _ made of in
      subst (IsOwnMessage code.hosts word) same (token_own code.hosts word it.3 token fourth)

  rgoto_own : (words : List Word) → Owns (rgoto_of code word words)
  rgoto_own words made is =
      let (it, there, of) = then_made _ (three_words words) made is in
      let (one, two, token, first, second, third, same) =
      three_made (λ frame entry token. bad.Rgoto frame entry token) _ _ _ made of in
      subst (IsOwnMessage code.hosts word) same (token_own code.hosts word it.2 token third)

  rgoto_with_own : (words : List Word) → Owns (rgoto_with_of code word words)
  rgoto_with_own (frame ∷ entry ∷ token ∷ mark ∷ words) made is =
      elim (either_made (bytes_eq mark (codes "with")) _ None made is) [
        | inl (holds, said) ↦
            let (one, two, presented, riders, first, second, third, fourth, same) =
            four_made (λ frame entry token riders. bad.RgotoWith frame entry token riders) _ _ _ _ made said in
            subst (IsOwnMessage code.hosts word) same (token_own code.hosts word token presented third)
        | inr (fails, none) ↦ absurd cc
      ]
  rgoto_with_own words made is = absurd cc

  or_else_own : (first second : Option BadMessage) → Owns first → Owns second → Owns (or_else first second)
  or_else_own (Some one) second owns other made is = owns made is
  or_else_own None second owns other made is = other made is

  lgoto_own : (words : List Word) → Owns (lgoto_of code word words)
  lgoto_own words made is =
      let (it, there, of) = then_made _ (one_word words) made is in
      let (token, first, same) = mapped (λ token. bad.Lgoto token) _ made of in
      subst (IsOwnMessage code.hosts word) same (token_own code.hosts word it token first)

  value_own : (words : List Word) → Owns (value_of words)
  value_own words made is =
      let (it, there, of) = then_made _ (two_words words) made is in
      let (one, two, first, second, same) = two_made (λ request value. bad.Value request value) _ _ made of in
      subst (IsOwnMessage code.hosts word) same tt

  ack_own : (words : List Word) → Owns (ack_of words)
  ack_own words made is =
      let (it, there, of) = then_made _ (one_word words) made is in
      let (request, first, same) = mapped (λ request. bad.Ack request) _ made of in
      subst (IsOwnMessage code.hosts word) same tt

  answer_own : (words : List Word) → Owns (answer_of code word words)
  answer_own words made is =
      let (it, there, of) = then_made _ (two_words words) made is in
      let (one, token, first, second, same) = two_made (λ request token. bad.Token request token) _ _ made of in
      subst (IsOwnMessage code.hosts word) same (token_own code.hosts word it.1 token second)

  or_own : (test : Bool) (first second : Option BadMessage) → Owns first → Owns second →
      Owns (if test then first else second)
  or_own true first second one two made is = one made is
  or_own false first second one two made is = two made is

  none_own : Owns None
  none_own made is = absurd cc

  message_own : (words : List Word) → Owns (message_of code word words)
  message_own [] = none_own
  message_own (kind ∷ words) =
      or_own (bytes_eq kind (codes "get")) _ _ (get_own words)
      (or_own (bytes_eq kind (codes "set")) _ _ (set_own words)
      (or_own (bytes_eq kind (codes "forward")) _ _ (forward_own words)
      (or_own (bytes_eq kind (codes "sync")) _ _ (sync_own words)
      (or_own (bytes_eq kind (codes "rgoto")) _ _ (or_else_own _ _ (rgoto_own words) (rgoto_with_own words))
      (or_own (bytes_eq kind (codes "lgoto")) _ _ (lgoto_own words)
      (or_own (bytes_eq kind (codes "value")) _ _ (value_own words)
      (or_own (bytes_eq kind (codes "ack")) _ _ (ack_own words)
      (or_own (bytes_eq kind (codes "token")) _ _ (answer_own words) none_own))))))))

  -- ---- events

  abbrev OwnEvent : Option Event → Type 0
  OwnEvent found = (event : Event) → found ≡ Some event → IsOwnEvent code.hosts word event

  turn_own : (words : List Word) → OwnEvent (turn_of code.hosts words)
  turn_own words event is =
      let (it, there, of) = then_made _ (one_word words) event is in
      let (host, at, same) = mapped Turn _ event of in
      subst (IsOwnEvent code.hosts word) same tt

  take_own : (words : List Word) → OwnEvent (take_of code.hosts words)
  take_own words event is =
      let (it, there, of) = then_made _ (three_words words) event is in
      let (one, two, three, first, second, third, same) =
      three_made (λ from to place. Take from to place) _ _ _ event of in
      subst (IsOwnEvent code.hosts word) same tt

  act_own : (words : List Word) → OwnEvent (act_of code word words)
  act_own [] event is = absurd cc
  act_own (from ∷ []) event is = absurd cc
  act_own (from ∷ to ∷ said) event is =
      let (one, two, made, first, second, third, same) =
      three_made (λ from to made. Act from to made) _ _ _ event is in
      subst (IsOwnEvent code.hosts word) same (message_own said made third)

  either_own : (test : Bool) (first second : Option Event) → OwnEvent first → OwnEvent second →
      OwnEvent (if test then first else second)
  either_own true first second one two event is = one event is
  either_own false first second one two event is = two event is

  no_event : OwnEvent None
  no_event event is = absurd cc

  event_own : (words : List Word) → OwnEvent (event_of code word words)
  event_own [] = no_event
  event_own (verb ∷ words) =
      either_own (bytes_eq verb (codes "turn")) _ _ (turn_own words)
      (either_own (bytes_eq verb (codes "take")) _ _ (take_own words)
      (either_own (bytes_eq verb (codes "act")) _ _ (act_own words) no_event))

  abbrev AreOwn : List (ℕ × Event) → Type 0
  AreOwn said = AllByRecursion (λ one. IsOwnEvent code.hosts word one.1) said

  with_own : (number : ℕ) (found : Option Event) (others : Result (List (ℕ × Event)) ℕ) (said : List (ℕ × Event)) →
      OwnEvent found → ((events : List (ℕ × Event)) → others ≡ Ok events → AreOwn events) →
      with_event number found others ≡ Ok said → AreOwn said
  with_own number None others said first rest is = absurd cc
  with_own number (Some event) (Ok events) said first rest is =
      let same : ◌≡◌ {A = List (ℕ × Event)} ((number, event) ∷ events) said = cc in
      subst AreOwn same (first event refl, rest events refl)
  with_own number (Some event) (Err line) said first rest is = absurd cc

  lines_own : (lines : List LineShape) (said : List (ℕ × Event)) → events_of code word lines ≡ Ok said → AreOwn said
  lines_own [] said is = let same : ◌≡◌ {A = List (ℕ × Event)} [] said = cc in subst AreOwn same tt
  lines_own (line ∷ lines) said is =
      with_own line.number (event_of code word line.words) (events_of code word lines) said (event_own line.words)
      (λ events found. lines_own lines events found) is

  -- the events of lines
  pub all_own : (lines : List LineShape) (said : List (ℕ × Event)) → events_of code word lines ≡ Ok said →
      All (λ one. IsOwnEvent code.hosts word one.1) said
  all_own lines said is =
      All-from_recursion (λ (one : ℕ × Event). IsOwnEvent code.hosts word one.1) said (lines_own lines said is)

-- what a script presents
pub script_own : (code : CodeShape) (bytes : List ℕ) (script : ScriptShape) → script_of code bytes ≡ Ok script →
    All (λ one. IsOwnEvent code.hosts script.bad one.1) script.events
script_own code bytes script is =
    by (events_of code word (past_settings fields behind)) refl is
  where
    fields : List FieldForm
    fields = map form_of code.fields

    word : ℕ
    word = with_hosts 0 (bad_in_front code.hosts (said_lines bytes))

    behind : List LineShape
    behind = past_bad code.hosts (said_lines bytes)

    start : List (List ℤ)
    start = after_settings (starting_rows fields) (settings_in_front fields behind)

    by : (found : Result (List (ℕ × Event)) ℕ) → events_of code word (past_settings fields behind) ≡ found →
        with_start word start found ≡ Ok script → All (λ one. IsOwnEvent code.hosts script.bad one.1) script.events
    by (Ok events) read made =
        let whole : ScriptShape = record { bad = word; start = start; events = events } in
        let same : whole ≡ script = cc in
        subst (λ (it : ScriptShape). All (λ one. IsOwnEvent code.hosts it.bad one.1) it.events) same
        (all_own code word (past_settings fields behind) events read)
    by (Err line) read made = absurd cc
