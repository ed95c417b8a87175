-- What an event notes is found in the worlds before it and after it.
use Rattle.std.proofs.Common.{◌≡◌, ◌∙◌, ℕ, ◌⊎◌, inl, inr, List, [], ◌∷◌, Option, Some, None, refl, ap, sym, subst}
use Rattle.std.specs.Prelude.{slice_get}
use Rattle.js_base.specs.declared.ids.HostId.{HostId}
use Rattle.event_text.specs.declared.event.Event.{Event}
use Rattle.event_text.specs.declared.event.Event.TheVariants.{Take, Turn, Act}
use Rattle.event_text.specs.Words.{Word}
use Rattle.host_code.specs.declared.instruction.Instr.{Instr}
use Rattle.host_code.specs.declared.message.Message.{Message}
use Rattle.host_code.specs.Code.{CodeShape, instruction_at}
use Rattle.host_code.specs.Thread.{ThreadShape}
use Rattle.host_core.specs.Host.{HostState, Outcome, Letter, with_running}
use Rattle.host_core.specs.Turn.{IsTurnOf, IsRunning, label_of_turn, label_of_thread}
use Rattle.net_world.specs.Choice.{NothingFlies, IsNextEvent}
use Rattle.net_world.specs.Flying.{Flight}
use Rattle.net_world.specs.World.{WorldShape, IsStep, IsTakeStep, IsTurnStep, state_at, with_state, without_flight}
use Rattle.net_world.specs.World.{AllObey, after_sending, letter_of}
use Rattle.event_text.specs.JournalText.{take_words, sent_words, send_words, turn_words}
use Rattle.record_merge.specs.NextLines.{taken_words, step_words, flying_words, sent_next, note_of}
use Rattle.record_merge.specs.Notes.{IsEventNoted}
use Rattle.record_merge.specs.Single.{flies, IsOnly, IsSingle}
use Rattle.record_merge.proofs.Singles.{OthersRest, turn_alone, take_alone, taken_flights, nothing_sent, letter_moved}
use Rattle.record_merge.proofs.Singles.{posted_only, posted_flights, act_nowhere}
use Rattle.record_merge.proofs.Spent.{turn_spent, take_spent}

-- ---- what is sent has a label

abbrev pub IsLabelled : Option ℕ → Option (HostId × Message) → Type 0
IsLabelled label sent = (sent ≡ None) ⊎ ((n : ℕ) × (label ≡ Some n))

instruction_labelled : (code : CodeShape) (host : HostState) (thread : ThreadShape) (there : Option Instr)
    (label : Option ℕ) (outcome : Outcome) → ((one : Instr) → there ≡ Some one → label ≡ Some one.label) →
    IsRunning code host thread there outcome → IsLabelled label outcome.sent
instruction_labelled code host thread None label outcome labels runs =
    inl (ap (λ (o : Outcome). o.sent) (sym runs))
instruction_labelled code host thread (Some one) label outcome labels runs = inr (one.label, labels one refl)

turn_labelled : (code : CodeShape) (host : HostState) (running : Option ThreadShape) (outcome : Outcome) →
    IsTurnOf code host running outcome → IsLabelled (label_of_thread code host.me running) outcome.sent
turn_labelled code host None outcome turns = inl (ap (λ (o : Outcome). o.sent) (sym turns))
turn_labelled code host (Some thread) outcome turns =
    instruction_labelled code (with_running host None) thread (instruction_at code host.me thread.at)
    (label_of_thread code host.me (Some thread)) outcome
    (λ one is. rw is refl) turns

-- ---- what is taken next was sent

quiet_next : (code : CodeShape) (world : WorldShape) (next : Option Event) → NothingFlies world →
    IsNextEvent world next → sent_next code world next ≡ []
quiet_next code world None none is = refl
quiet_next code world (Some (Turn host)) none is = refl
quiet_next code world (Some (Take from to place)) none is = absurd (none from to is.1.target.flies)
quiet_next code world (Some (Act from to made)) none is = refl

flying_next : (code : CodeShape) (world : WorldShape) (host to : HostId) (flight : Flight) (next : Option Event) →
    world.flying host to ≡ flight ∷ [] → IsOnly world (flies host to) →
    IsNextEvent world next → sent_next code world next ≡ send_words code to flight.message ∷ []
flying_next code world host to flight None there only is =
    absurd (is.1 host to (λ none. let both : flight ∷ [] ≡ [] = sym there ∙ none in absurd (cc)))
flying_next code world host to flight (Some (Turn other)) there only is = absurd (only.0 other is.runs)
flying_next code world host to flight (Some (Take from target place)) there only is =
    let same = only.1.alone from target is.1.target.flies in
    let found : slice_get (world.flying from target) place ≡ Some flight =
    ap (λ k. slice_get (world.flying from target) k) is.2
    ∙ ap (λ (h : HostId). slice_get (world.flying h target) 0) same.0
    ∙ ap (λ (h : HostId). slice_get (world.flying host h) 0) same.1
    ∙ ap (λ flights. slice_get flights 0) there in
    ap (flying_words code target) found ∙ ap (λ (h : HostId). send_words code h flight.message ∷ []) same.1
flying_next code world host to flight (Some (Act from target made)) there only is = absurd is

sent_is : (code : CodeShape) (world after : WorldShape) (host : HostId) (old state : HostState)
    (sent : Option (HostId × Message)) (label : Option ℕ) (next : Option Event) → AllObey world →
    state_at world host ≡ Some old → OthersRest world host → NothingFlies world →
    (state.running ≡ None) ⊎ (sent ≡ None) → IsLabelled label sent →
    after_sending (with_state world host state) host (letter_of label sent) ≡ after → IsNextEvent after next →
    sent_next code after next ≡ sent_words code sent
sent_is code world after host old state None label next obey obeys rest none spent labelled leaves is =
    let quiet : with_state world host state ≡ after =
    ap (after_sending (with_state world host state) host) (sym (nothing_sent label None refl)) ∙ leaves in
    quiet_next code after next (λ from to some. none from to (λ empty. some
    (ap (λ (w : WorldShape). w.flying from to) (sym quiet) ∙ empty))) is
sent_is code world after host old state (Some sent) label next obey obeys rest none spent labelled leaves is =
    elim labelled [
      | inl unsent ↦ absurd (cc)
      | inr there ↦
          let letter : Letter = record { to = sent.0; message = sent.1; label = there.0 } in
          let flight : Flight = record { message = sent.1; label = there.0 } in
          let posts : after_sending (with_state world host state) host (Some letter) ≡ after =
          ap (λ l. after_sending (with_state world host state) host (letter_of l (Some sent))) (sym there.1) ∙ leaves in
          let moved = letter_moved world after host old state letter obey obeys none posts in
          let rests : state.running ≡ None = elim spent [ inl rests ↦ rests | inr unsent ↦ absurd (cc) ] in
          flying_next code after host sent.0 flight next (posted_flights world after host sent.0 state flight moved)
          (posted_only world after host sent.0 old state flight obeys rest none rests moved) is
    ]

-- ---- notes

turn_noted : (code : CodeShape) (world after : WorldShape) (host : HostId) (next : Option Event) → IsSingle world →
    IsTurnStep code world host after → IsNextEvent after next →
    IsEventNoted code world (Turn host) after (note_of code world (Turn host) after next)
turn_noted code world after host next single step is =
    let only =
    subst (IsOnly world) (turn_alone code world after host single.active single.only step) single.only in
    let sent = sent_is code world after host step.state step.outcome.state step.outcome.sent
    (label_of_turn code step.state) next single.obey step.obeys only.0.alone only.1
    (turn_spent code step.state step.outcome step.turns)
    (turn_labelled code step.state step.state.running step.outcome step.turns) step.leaves is in
    (step, ap (λ (lines : List (List Word)). record { host = host; lines = turn_words ∷ lines }) sent)

take_noted : (code : CodeShape) (world after : WorldShape) (from to : HostId) (place : ℕ) (next : Option Event) →
    IsSingle world → IsTakeStep code world from to place after → IsNextEvent after next →
    IsEventNoted code world (Take from to place) after (note_of code world (Take from to place) after next)
take_noted code world after from to place next single step is =
    let only =
    subst (IsOnly world) (take_alone code world after from to place single.active single.only step) single.only in
    let taken = without_flight world from to place in
    let sent = sent_is code taken after to step.state step.outcome.state step.outcome.sent (Some step.flight.label) next
    single.obey step.obeys (λ other running. absurd (only.0 other running))
    (taken_flights world from to place step.flight only.1 step.there)
    (take_spent code step.state from step.flight.message step.outcome step.rests step.takes)
    (inr (step.flight.label, refl)) step.leaves is in
    let first : step_words code world (Take from to place) ≡ take_words code from step.flight.message =
    ap (taken_words code from) step.there in (
      step,
      ap (λ (words : List Word). record { host = to; lines = words ∷ sent_next code after next }) first
          ∙ ap (λ (lines : List (List Word)). record {
            host = to;
            lines = take_words code from step.flight.message ∷ lines;
          }) sent,
    )

pub step_noted : (code : CodeShape) (world after : WorldShape) (event : Event) (next : Option Event) →
    IsSingle world → IsStep code world event after → IsNextEvent after next →
    IsEventNoted code world event after (note_of code world event after next)
step_noted code world after (Turn host) next single step is = turn_noted code world after host next single step is
step_noted code world after (Take from to place) next single step is =
    take_noted code world after from to place next single step is
step_noted code world after (Act from to made) next single step is =
    absurd (act_nowhere world from single.obey step.bad)
