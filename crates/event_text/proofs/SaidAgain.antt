-- What an event is printed as says it again.
use Rattle.std.proofs.Common.{◌≡◌, ℕ, List, [], ◌∷◌, ◌++◌, Option, Some, None, refl, ap, sym, subst}
use Rattle.std.proofs.Common.{◌∙◌, inl, inr}
use Rattle.std.specs.Prelude.{codes, if◌then◌else◌}
use Rattle.std.specs.Str.{bytes_eq}
use Rattle.std.proofs.lemmas.List.{append_assoc}
use Rattle.std.proofs.lemmas.Slice.Eq.{bytes_eq-Decides}
use Rattle.host_code.specs.Code.{CodeShape}
use Rattle.event_text.specs.declared.event.Event.{Event}
use Rattle.event_text.specs.declared.event.Event.TheVariants.{Take, Turn, Act}
use Rattle.event_text.specs.declared.event.BadMessage.{BadMessage}
use Rattle.event_text.specs.declared.event.BadMessage.TheVariants as bad
use Rattle.event_text.specs.Acts.{get_of, set_of, forward_of, sync_of, rgoto_of, lgoto_of, value_of, ack_of, answer_of}
use Rattle.event_text.specs.Acts.{rgoto_with_of, message_of}
use Rattle.event_text.specs.Events.{turn_of, take_of, act_of, event_of}
use Rattle.event_text.specs.EventText.{bad_message_text, event_text}
use Rattle.event_text.specs.Lines.{words}
use Rattle.event_text.specs.Words.{Word, one_word, two_words, three_words, four_words, or_else}
use Rattle.event_text.proofs.MadeParts.{mapped, then_made, either_made, two_made, three_made, four_made}
use Rattle.event_text.proofs.SaidNumbers.{number_text, signed_text}
use Rattle.event_text.proofs.SaidParts.{one_are, two_are, three_are, four_are, host_said, field_said, variable_said}
use Rattle.event_text.proofs.SaidParts.{request_said, frame_said, entry_said, token_said}
use Rattle.event_text.proofs.SaidRiders.{riders_said, spaced, joined_spaced}
use Rattle.event_text.proofs.SaidWords.{joined, words_again}

abbrev pub space : ℕ
space = 32

pub spaced_two : (a b : Word) → a ++ codes " " ++ b ≡ joined space (a ∷ b ∷ [])
spaced_two a b = append_assoc a (codes " ") b

pub spaced_three : (a b c : Word) → a ++ codes " " ++ b ++ codes " " ++ c ≡ joined space (a ∷ b ∷ c ∷ [])
spaced_three a b c = append_assoc (a ++ codes " " ++ b) (codes " ") c ∙ append_assoc (a ++ codes " ") b (space ∷ c)
    ∙ append_assoc a (codes " ") (b ++ space ∷ c)

pub spaced_four : (a b c d : Word) → a ++ codes " " ++ b ++ codes " " ++ c ++ codes " " ++ d
    ≡ joined space (a ∷ b ∷ c ∷ d ∷ [])
spaced_four a b c d =
    append_assoc (a ++ codes " " ++ b ++ codes " " ++ c) (codes " ") d
    ∙ append_assoc (a ++ codes " " ++ b ++ codes " ") c (space ∷ d)
    ∙ spaced_three a b (c ++ space ∷ d)

spaced_with : (a b c : Word) (said : List Word) →
    a ++ codes " " ++ b ++ codes " " ++ c ++ codes " with" ++ spaced said
    ≡ joined space (a ∷ b ∷ c ∷ codes "with" ∷ said)
spaced_with a b c said =
    append_assoc (a ++ codes " " ++ b ++ codes " " ++ c) (codes " with") (spaced said)
    ∙ append_assoc (a ++ codes " " ++ b ++ codes " ") c (codes " with" ++ spaced said)
    ∙ spaced_three a b (c ++ (codes " with" ++ spaced said))
    ∙ ap (λ (rest : List ℕ). a ++ space ∷ (b ++ space ∷ (c ++ space ∷ rest)))
    (sym (joined_spaced (codes "with") said))

module _ (code : CodeShape) (word : ℕ) where
  -- ---- messages

  -- what the words behind a kind say is printed as the kind and these words
  abbrev Prints : Word → List Word → Option BadMessage → Type 0
  Prints kind said found =
      (made : BadMessage) → found ≡ Some made → bad_message_text code made ≡ joined space (kind ∷ said)

  abbrev Said : Word → List Word → BadMessage → Type 0
  Said kind said made = bad_message_text code made ≡ joined space (kind ∷ said)

  get_said : (said : List Word) → Prints (codes "get") said (get_of code said)
  get_said said made is =
      let (it, there, of) = then_made _ (three_words said) made is in
      let (request, field, index, one, two, three, same) =
      three_made (λ request field index. bad.Get request field index) _ _ _ made of in
      subst (Said (codes "get") said) same
      (subst (λ ws. Said (codes "get") ws (bad.Get request field index)) (sym (three_are said it there))
      (rw (request_said it.0 request one, field_said code it.1 field two, signed_text it.2 index three)
      (ap (λ (rest : List ℕ). codes "get " ++ rest) (spaced_three it.0 it.1 it.2))))

  set_said : (said : List Word) → Prints (codes "set") said (set_of code said)
  set_said said made is =
      let (it, there, of) = then_made _ (four_words said) made is in
      let (request, field, index, value, one, two, three, four, same) =
      four_made (λ request field index value. bad.Set request field index value) _ _ _ _ made of in
      subst (Said (codes "set") said) same
      (subst (λ ws. Said (codes "set") ws (bad.Set request field index value)) (sym (four_are said it there))
      (rw (
        request_said it.0 request one,
        field_said code it.1 field two,
        signed_text it.2 index three,
        signed_text it.3
            value four,
      )
      (ap (λ (rest : List ℕ). codes "set " ++ rest) (spaced_four it.0 it.1 it.2 it.3))))

  forward_said : (said : List Word) → Prints (codes "forward") said (forward_of code said)
  forward_said said made is =
      let (it, there, of) = then_made _ (four_words said) made is in
      let (request, frame, variable, value, one, two, three, four, same) =
      four_made (λ request frame variable value. bad.Forward request frame variable value) _ _ _ _ made of in
      subst (Said (codes "forward") said) same
      (subst (λ ws. Said (codes "forward") ws (bad.Forward request frame variable value)) (sym (four_are said it there))
      (rw (
        request_said it.0 request one,
        frame_said it.1 frame two,
        variable_said code it.2 variable three,
        signed_text
            it.3 value four,
      )
      (ap (λ (rest : List ℕ). codes "forward " ++ rest) (spaced_four it.0 it.1 it.2 it.3))))

  sync_said : (said : List Word) → Prints (codes "sync") said (sync_of code word said)
  sync_said said made is =
      let (it, there, of) = then_made _ (four_words said) made is in
      let (request, frame, entry, token, one, two, three, four, same) =
      four_made (λ request frame entry token. bad.Sync request frame entry token) _ _ _ _ made of in
      subst (Said (codes "sync") said) same
      (subst (λ ws. Said (codes "sync") ws (bad.Sync request frame entry token)) (sym (four_are said it there))
      (rw (
        request_said it.0 request one,
        frame_said it.1 frame two,
        entry_said it.2 entry three,
        token_said code word
            it.3 token four,
      )
      (ap (λ (rest : List ℕ). codes "sync " ++ rest) (spaced_four it.0 it.1 it.2 it.3))))

  rgoto_said : (said : List Word) → Prints (codes "rgoto") said (rgoto_of code word said)
  rgoto_said said made is =
      let (it, there, of) = then_made _ (three_words said) made is in
      let (frame, entry, token, one, two, three, same) =
      three_made (λ frame entry token. bad.Rgoto frame entry token) _ _ _ made of in
      subst (Said (codes "rgoto") said) same
      (subst (λ ws. Said (codes "rgoto") ws (bad.Rgoto frame entry token)) (sym (three_are said it there))
      (rw (frame_said it.0 frame one, entry_said it.1 entry two, token_said code word it.2 token three)
      (ap (λ (rest : List ℕ). codes "rgoto " ++ rest) (spaced_three it.0 it.1 it.2))))

  rgoto_with_said : (said : List Word) → Prints (codes "rgoto") said (rgoto_with_of code word said)
  rgoto_with_said (first ∷ second ∷ third ∷ mark ∷ said) made is =
      elim (either_made (bytes_eq mark (codes "with")) _ None made is) [
        | inl (holds, found) ↦
            let (frame, entry, token, riders, one, two, three, four, same) =
            four_made (λ frame entry token riders. bad.RgotoWith frame entry token riders) _ _ _ _ made found in
            subst (Said (codes "rgoto") (first ∷ second ∷ third ∷ mark ∷ said)) same
            (rw (
              frame_said first frame one,
              entry_said second entry two,
              token_said code word third token three,
              riders_said code said riders four,
            )
            (ap (λ (rest : List ℕ). codes "rgoto " ++ rest)
            (spaced_with first second third said)
            ∙ ap (λ (w : Word). joined space (codes "rgoto" ∷ first ∷ second ∷ third ∷ w ∷ said))
            (sym ((bytes_eq-Decides mark (codes "with")).0 holds))))
        | inr (fails, none) ↦ absurd cc
      ]
  rgoto_with_said said made is = absurd cc

  or_else_said : (kind : Word) (said : List Word) (first second : Option BadMessage) → Prints kind said first →
      Prints kind said second → Prints kind said (or_else first second)
  or_else_said kind said (Some found) second one two made is = one made is
  or_else_said kind said None second one two made is = two made is

  lgoto_said : (said : List Word) → Prints (codes "lgoto") said (lgoto_of code word said)
  lgoto_said said made is =
      let (it, there, of) = then_made _ (one_word said) made is in
      let (token, one, same) = mapped (λ token. bad.Lgoto token) _ made of in
      subst (Said (codes "lgoto") said) same
      (subst (λ ws. Said (codes "lgoto") ws (bad.Lgoto token)) (sym (one_are said it there))
      (rw (token_said code word it token one)
      refl))

  value_said : (said : List Word) → Prints (codes "value") said (value_of said)
  value_said said made is =
      let (it, there, of) = then_made _ (two_words said) made is in
      let (request, value, one, two, same) = two_made (λ request value. bad.Value request value) _ _ made of in
      subst (Said (codes "value") said) same
      (subst (λ ws. Said (codes "value") ws (bad.Value request value)) (sym (two_are said it there))
      (rw (request_said it.0 request one, signed_text it.1 value two)
      (ap (λ (rest : List ℕ). codes "value " ++ rest) (spaced_two it.0 it.1))))

  ack_said : (said : List Word) → Prints (codes "ack") said (ack_of said)
  ack_said said made is =
      let (it, there, of) = then_made _ (one_word said) made is in
      let (request, one, same) = mapped (λ request. bad.Ack request) _ made of in
      subst (Said (codes "ack") said) same
      (subst (λ ws. Said (codes "ack") ws (bad.Ack request)) (sym (one_are said it there))
      (rw (request_said it request one)
      refl))

  answer_said : (said : List Word) → Prints (codes "token") said (answer_of code word said)
  answer_said said made is =
      let (it, there, of) = then_made _ (two_words said) made is in
      let (request, token, one, two, same) = two_made (λ request token. bad.Token request token) _ _ made of in
      subst (Said (codes "token") said) same
      (subst (λ ws. Said (codes "token") ws (bad.Token request token)) (sym (two_are said it there))
      (rw (request_said it.0 request one, token_said code word it.1 token two)
      (ap (λ (rest : List ℕ). codes "token " ++ rest) (spaced_two it.0 it.1))))

  -- a kind, or another
  kind_said : (kind other : Word) (said : List Word) (first second : Option BadMessage) → Prints other said first →
      Prints kind said second → Prints kind said (if bytes_eq kind other then first else second)
  kind_said kind other said first second one two made is =
      elim (either_made (bytes_eq kind other) first second made is) [
        | inl (holds, found) ↦
            one made found
            ∙ ap (λ (w : Word). joined space (w ∷ said)) (sym ((bytes_eq-Decides kind other).0 holds))
        | inr (fails, found) ↦ two made found
      ]

  no_kind : (kind : Word) (said : List Word) → Prints kind said None
  no_kind kind said made is = absurd cc

  by_kind : (kind : Word) (said : List Word) → Prints kind said (message_of code word (kind ∷ said))
  by_kind kind said =
      kind_said kind (codes "get") said _ _ (get_said said)
      (kind_said kind (codes "set") said _ _ (set_said said)
      (kind_said kind (codes "forward") said _ _ (forward_said said)
      (kind_said kind (codes "sync") said _ _ (sync_said said)
      (kind_said kind (codes "rgoto") said _ _
      (or_else_said (codes "rgoto") said _ _ (rgoto_said said) (rgoto_with_said said))
      (kind_said kind (codes "lgoto") said _ _ (lgoto_said said)
      (kind_said kind (codes "value") said _ _ (value_said said)
      (kind_said kind (codes "ack") said _ _ (ack_said said)
      (kind_said kind (codes "token") said _ _ (answer_said said) (no_kind kind said)))))))))

  message_said : (said : List Word) (made : BadMessage) → message_of code word said ≡ Some made →
      bad_message_text code made ≡ joined space said
  message_said [] made is = absurd cc
  message_said (kind ∷ said) made is = by_kind kind said made is

  -- ---- events

  abbrev SaysAgain : Word → List Word → Option Event → Type 0
  SaysAgain verb said found = (event : Event) → found ≡ Some event → event_text code event ≡ joined space (verb ∷ said)

  abbrev EventSaid : Word → List Word → Event → Type 0
  EventSaid verb said event = event_text code event ≡ joined space (verb ∷ said)

  turn_said : (said : List Word) → SaysAgain (codes "turn") said (turn_of code.hosts said)
  turn_said said event is =
      let (it, there, of) = then_made _ (one_word said) event is in
      let (host, one, same) = mapped Turn _ event of in
      subst (EventSaid (codes "turn") said) same
      (subst (λ ws. EventSaid (codes "turn") ws (Turn host)) (sym (one_are said it there))
      (rw (host_said code it host one) refl))

  take_said : (said : List Word) → SaysAgain (codes "take") said (take_of code.hosts said)
  take_said said event is =
      let (it, there, of) = then_made _ (three_words said) event is in
      let (from, to, place, one, two, three, same) =
      three_made (λ from to place. Take from to place) _ _ _ event of in
      subst (EventSaid (codes "take") said) same
      (subst (λ ws. EventSaid (codes "take") ws (Take from to place)) (sym (three_are said it there))
      (rw (host_said code it.0 from one, host_said code it.1 to two, number_text it.2 place three)
      (ap (λ (rest : List ℕ). codes "take " ++ rest) (spaced_three it.0 it.1 it.2))))

  -- a message has its kind
  filled_act : (from to : Word) (said : List Word) (made : BadMessage) → message_of code word said ≡ Some made →
      joined space (from ∷ to ∷ said) ≡ from ++ space ∷ (to ++ space ∷ joined space said)
  filled_act from to [] made is = absurd cc
  filled_act from to (kind ∷ said) made is = refl

  act_said : (said : List Word) → SaysAgain (codes "act") said (act_of code word said)
  act_said [] event is = absurd cc
  act_said (first ∷ []) event is = absurd cc
  act_said (first ∷ second ∷ said) event is =
      let (from, to, made, one, two, three, same) =
      three_made (λ from to made. Act from to made) _ _ _ event is in
      subst (EventSaid (codes "act") (first ∷ second ∷ said)) same
      (rw (host_said code first from one, host_said code second to two, message_said said made three)
      (ap (λ (rest : List ℕ). codes "act " ++ rest)
      (spaced_three first second (joined space said) ∙ sym (filled_act first second said made three))))

  verb_said : (verb other : Word) (said : List Word) (first second : Option Event) → SaysAgain other said first →
      SaysAgain verb said second → SaysAgain verb said (if bytes_eq verb other then first else second)
  verb_said verb other said first second one two event is =
      elim (either_made (bytes_eq verb other) first second event is) [
        | inl (holds, found) ↦
            one event found
            ∙ ap (λ (w : Word). joined space (w ∷ said)) (sym ((bytes_eq-Decides verb other).0 holds))
        | inr (fails, found) ↦ two event found
      ]

  no_verb : (verb : Word) (said : List Word) → SaysAgain verb said None
  no_verb verb said event is = absurd cc

  by_verb : (verb : Word) (said : List Word) → SaysAgain verb said (event_of code word (verb ∷ said))
  by_verb verb said =
      verb_said verb (codes "turn") said _ _ (turn_said said)
      (verb_said verb (codes "take") said _ _ (take_said said)
      (verb_said verb (codes "act") said _ _ (act_said said) (no_verb verb said)))

  event_said : (said : List Word) (event : Event) → event_of code word said ≡ Some event →
      event_text code event ≡ joined space said
  event_said [] event is = absurd cc
  event_said (verb ∷ said) event is = by_verb verb said event is

  -- an event that a line says is said by what it is printed as
  pub said_again : (line : List ℕ) (event : Event) → event_of code word (words line) ≡ Some event →
      event_of code word (words (event_text code event)) ≡ Some event
  said_again line event is =
      ap (λ (text : List ℕ). event_of code word (words text)) (event_said (words line) event is)
      ∙ ap (event_of code word) (words_again line) ∙ is
