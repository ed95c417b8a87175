-- Of two lists of events that happen from one world on, one begins with the other, and so do their notes.
use Rattle.std.proofs.Common.{◌≡◌, ◌∙◌, ◌⊎◌, inl, inr, List, [], ◌∷◌, ◌++◌, refl, ap, sym, subst}
use Rattle.std.specs.Prelude.{slice_get}
use Rattle.js_base.specs.declared.ids.HostId.{HostId}
use Rattle.js_base.proofs.Options.{some_same}
use Rattle.event_text.specs.declared.event.Event.{Event}
use Rattle.event_text.specs.declared.event.Event.TheVariants.{Take, Turn, Act}
use Rattle.host_code.specs.Code.{CodeShape}
use Rattle.host_core.specs.Host.{HostState, Outcome}
use Rattle.host_core.specs.Taking.{IsTaking}
use Rattle.host_core.specs.Turn.{IsTurn}
use Rattle.host_core.proofs.OneOutcome.{one_taking, one_turn_of}
use Rattle.net_world.specs.Flying.{Flight}
use Rattle.net_world.specs.World.{WorldShape, IsStep, state_at}
use Rattle.net_world.proofs.StepLaws.{one_step}
use Rattle.event_text.specs.JournalText.{turn_words, take_words, sent_words}
use Rattle.record_merge.specs.Notes.{JournalNote, IsEventNoted, IsNotedRun}
use Rattle.record_merge.specs.Single.{IsSingle}
use Rattle.record_merge.proofs.Singles.{step_single, one_event}

-- what is noted happens
pub noted_step : (code : CodeShape) (world after : WorldShape) (event : Event) (note : JournalNote) →
    IsEventNoted code world event after note → IsStep code world event after
noted_step code world after (Turn host) note noted = noted.0
noted_step code world after (Take from to place) note noted = noted.0
noted_step code world after (Act from to made) note noted = absurd noted

-- ---- an event has one note

turn_note : CodeShape → HostId → Outcome → JournalNote
turn_note code host outcome = record { host = host; lines = turn_words ∷ sent_words code outcome.sent }

take_note : CodeShape → HostId → HostId → Flight → Outcome → JournalNote
take_note code from to flight outcome =
    record { host = to; lines = take_words code from flight.message ∷ sent_words code outcome.sent }

pub one_note : (code : CodeShape) (world first second : WorldShape) (event : Event) (note other : JournalNote) →
    IsEventNoted code world event first note → IsEventNoted code world event second other → note ≡ other
unfolding turn_note take_note
one_note code world first second (Turn host) note other a b =
    let one = a.0 in
    let two = b.0 in
    let state : one.state ≡ two.state =
    some_same (state_at world host) one.state two.state one.obeys two.obeys in
    let turns : IsTurn code two.state one.outcome =
    subst (λ (s : HostState). IsTurn code s one.outcome) state one.turns in
    let outcome : one.outcome ≡ two.outcome =
    one_turn_of code two.state two.state.running one.outcome two.outcome turns two.turns in
    a.1 ∙ ap (turn_note code host) outcome ∙ sym b.1
one_note code world first second (Take from to place) note other a b =
    let one = a.0 in
    let two = b.0 in
    let state : one.state ≡ two.state = some_same (state_at world to) one.state two.state one.obeys two.obeys in
    let flight : one.flight ≡ two.flight =
    some_same (slice_get (world.flying from to) place) one.flight two.flight one.there two.there in
    let takes : IsTaking code two.state from two.flight.message one.outcome =
    subst (λ (f : Flight). IsTaking code two.state from f.message one.outcome) flight
    (subst (λ (s : HostState). IsTaking code s from one.flight.message one.outcome) state one.takes) in
    let outcome : one.outcome ≡ two.outcome =
    one_taking code two.state from two.flight.message one.outcome two.outcome takes two.takes in
    a.1 ∙ ap (λ (f : Flight). take_note code from to f one.outcome) flight
    ∙ ap (take_note code from to two.flight) outcome ∙ sym b.1
one_note code world first second (Act from to made) note other a b = absurd a

-- ---- one list begins with the other

-- the second list goes on behind the first, and its notes do
pub record Beyond (code : CodeShape) (events others : List Event) (last : WorldShape)
    (notes longer : List JournalNote) :
    Type 0 where
  pub more : List Event
  pub events_are : others ≡ events ++ more
  pub later : List JournalNote
  pub notes_are : longer ≡ notes ++ later
  pub final : WorldShape
  pub run : IsNotedRun code last more final later

beyond_more : (code : CodeShape) (event : Event) (note : JournalNote) (events others : List Event) (last : WorldShape)
    (notes longer : List JournalNote) → Beyond code events others last notes longer →
    Beyond code (event ∷ events) (event ∷ others) last (note ∷ notes) (note ∷ longer)
beyond_more code event note events others last notes longer beyond = record {
  more = beyond.more;
  events_are = ap (λ es. event ∷ es) beyond.events_are;
  later = beyond.later;
  notes_are = ap (λ ns. note ∷ ns) beyond.notes_are;
  final = beyond.final;
  run = beyond.run;
}

along : (code : CodeShape) (es events os others : List Event) (last : WorldShape)
    (ns notes ls longer : List JournalNote) →
    es ≡ events → os ≡ others → ns ≡ notes → ls ≡ longer → Beyond code es os last ns ls →
    Beyond code events others last notes longer
along code es events os others last ns notes ls longer e o n l beyond =
    subst (λ x. Beyond code events others last notes x) l (subst (λ x. Beyond code events others last x ls) n
    (subst (λ x. Beyond code events x last ns ls) o (subst (λ x. Beyond code x os last ns ls) e beyond)))

begins : (code : CodeShape) (world last final : WorldShape) (others : List Event) (notes longer : List JournalNote) →
    (world ≡ last) × (notes ≡ []) → IsNotedRun code world others final longer →
    Beyond code [] others last notes longer
begins code world last final others notes longer stays run = record {
  more = others;
  events_are = refl;
  later = longer;
  notes_are = ap (λ ns. ns ++ longer) (sym stays.1);
  final = final;
  run = subst (λ (w : WorldShape). IsNotedRun code w others final longer) stays.0 run;
}

pub either_begins : (code : CodeShape) (world last final : WorldShape) (events others : List Event)
    (notes longer : List JournalNote) → IsSingle world → IsNotedRun code world events last notes →
    IsNotedRun code world others final longer →
    Beyond code events others last notes longer ⊎ Beyond code others events final longer notes
either_begins code world last final [] others notes longer single run other =
    inl (begins code world last final others notes longer run other)
either_begins code world last final (event ∷ events) [] notes longer single run other =
    inr (begins code world final last (event ∷ events) longer notes other run)
either_begins code world last final (event ∷ events) (next ∷ others) notes longer single run_one run_two =
    let after = run_one.0 in
    let note = run_one.1 in
    let later = run_one.2 in
    let noted = run_one.3 in
    let run = run_one.4 in
    let there = run_two.0 in
    let also = run_two.1 in
    let rest = run_two.2 in
    let happens = run_two.3 in
    let goes = run_two.4 in
    let step = noted_step code world after event note noted in
    let same : next ≡ event =
    one_event code world there after next event single (noted_step code world there next also happens) step in
    let again : IsEventNoted code world event there also = subst (λ e. IsEventNoted code world e there also) same
    happens in
    let note_is : also ≡ note = one_note code world there after event also note again noted in
    let world_is : there ≡ after =
    one_step code world there after event (noted_step code world there event also again) step in
    let going : IsNotedRun code after others final rest =
    subst (λ (w : WorldShape). IsNotedRun code w others final rest) world_is goes in
    let firsts : notes ≡ note ∷ later = run_one.5 in
    let seconds : longer ≡ note ∷ rest = run_two.5 ∙ ap (λ n. n ∷ rest) note_is in
    elim (either_begins code after last final events others later rest (step_single code world after event single step)
    run going) [
      | inl beyond ↦ inl (along code (event ∷ events) (event ∷ events) (event ∷ others) (next ∷ others) last
          (note ∷ later) notes (note ∷ rest) longer refl (ap (λ e. e ∷ others) (sym same)) (sym firsts) (sym seconds)
          (beyond_more code event note events others last later rest beyond))
      | inr beyond ↦ inr (along code (event ∷ others) (next ∷ others) (event ∷ events) (event ∷ events) final
          (note ∷ rest) longer (note ∷ later) notes (ap (λ e. e ∷ others) (sym same)) refl (sym seconds) (sym firsts)
          (beyond_more code event note others events final rest later beyond))
    ]
