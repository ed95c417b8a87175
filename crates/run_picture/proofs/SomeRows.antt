-- Events that happen have rows.
use Rattle.std.proofs.Common.{◌≡◌, ◌⊎◌, ℕ, Bool, true, false, List, [], ◌∷◌, ◌++◌, Option, Some, None, refl, sym}
use Rattle.std.proofs.Common.{subst, inl, inr}
use Rattle.std.specs.Prelude.{◌↔◌, IsSome, IsSomeAnd, IsTrue, if◌then◌else◌, length, nat_lt, slice_get}
use Rattle.js_base.specs.declared.ids.EntryId.{EntryId}
use Rattle.js_base.specs.declared.ids.HostId.{HostId}
use Rattle.ics_stack.specs.declared.stack.StackEntry.{StackEntry}
use Rattle.host_code.specs.declared.message.Message.{Message}
use Rattle.host_code.specs.Code.{CodeShape}
use Rattle.host_code.specs.Thread.{ThreadShape}
use Rattle.host_core.specs.Host.{HostState, Letter}
use Rattle.host_core.specs.Turn.{label_of_turn}
use Rattle.event_text.specs.declared.event.Event.{Event}
use Rattle.event_text.specs.declared.event.Event.TheVariants.{Take, Turn, Act}
use Rattle.net_world.specs.Flying.{Flight, Flying, with_flights}
use Rattle.net_world.specs.Replay.{events_in}
use Rattle.net_world.specs.Told.{message_made}
use Rattle.net_world.specs.World.{WorldShape, IsRun, IsStep, after_sending, after_telling, has_halted, letter_of}
use Rattle.net_world.specs.World.{misbehaves, mover, state_at, tokens_sent, with_state, without_flight}
use Rattle.ignored_reasons.specs.Reasons.{IsWhy}
use Rattle.ignored_reasons.specs.declared.why.Why.{Why}
use Rattle.ignored_reasons.specs.declared.why.Why.TheVariants as why
use Rattle.run_rows.specs.Rows.{IsIgnoring, IsPictured, IsRunRow, IsSending, IsWhat, Moment, moment_after}
use Rattle.run_rows.specs.Rows.{runs_in, waits_in}
use Rattle.run_rows.specs.Senders.{IsPosting, flying_left, sender_of}
use Rattle.run_rows.specs.Stacks.{HasChanged, IsStackStep, entries_in}
use Rattle.run_rows.specs.declared.row.Change.{Change}
use Rattle.run_rows.specs.declared.row.Change.TheVariants as change
use Rattle.run_rows.specs.declared.row.Row.{Row}
use Rattle.run_rows.specs.declared.row.What.{What}
use Rattle.run_rows.specs.declared.row.What.TheVariants as what
use Rattle.run_rows.proofs.StatesOf.{after_act, after_take, after_turn, some_and}
use Rattle.run_rows.proofs.TakenOff.{taking_stacks}
use Rattle.run_rows.proofs.Tellings.{one_more, told}
use Rattle.run_rows.proofs.TurnTraces.{turn_ignores, turn_stacks}

-- a message is ignored for some reason or for none
abbrev pub SomeWhy : Type 0
SomeWhy = (code : CodeShape) (host : HostState) (from : HostId) (taken : Message) →
    (found : Option Why) × IsWhy code host from taken found

-- ---- what an event was

thread_there : (running : Option ThreadShape) → IsSome running → (thread : ThreadShape) × (running ≡ Some thread)
thread_there None none = absurd (let no : false ≡ true = none in cc)
thread_there (Some thread) some = (thread, refl)

some_what : (code : CodeShape) (world next : WorldShape) (event : Event) → IsStep code world event next →
    (found : What) × IsWhat world event found
some_what code world next (Turn host) step =
    let thread = thread_there step.state.running step.runs in (
      what.Turn host thread.0.at,
      some_and (state_at world host) step.state _ step.obeys (some_and step.state.running thread.0 _ thread.1 refl),
    )
some_what code world next (Take from to place) step = (
  what.Take from to step.flight.message,
  some_and (slice_get (world.flying from to) place) step.flight _ step.there refl,
)
some_what code world next (Act from to made) step = (what.Act from to made, refl)

-- ---- why it was ignored

some_ignoring : SomeWhy → (code : CodeShape) (world next : WorldShape) (event : Event) →
    IsStep code world event next → (found : Option Why) × IsIgnoring code world event found
some_ignoring whys code world next (Turn host) step = elim (turn_ignores code step.state step.outcome step.turns) [
  | inl wrong ↦
      (Some why.NotOnTop, some_and (state_at world host) step.state _ step.obeys (inl (wrong.0, refl)))
  | inr right ↦ (None, some_and (state_at world host) step.state _ step.obeys (inr (right.0, refl)))
]
some_ignoring whys code world next (Take from to place) step =
    let found = whys code step.state from step.flight.message in (
      found.0,
      some_and (slice_get (world.flying from to) place) step.flight _ step.there
          (some_and (state_at world to) step.state _ step.obeys found.1),
    )
some_ignoring whys code world next (Act from to made) step =
    let found = whys code step.state from step.message in (
      found.0,
      some_and (message_made (tokens_sent world) made) step.message _ step.makes
          (some_and (state_at world to) step.state _ step.obeys found.1),
    )

-- ---- its host's control stack

change_made : (pushes : Option EntryId) (before after : List StackEntry) → IsStackStep pushes before after →
    (did : Change) × HasChanged before after did
change_made pushes before after (inl same) = (change.Same, same)
change_made pushes before after (inr (inl (top, more, pushed))) = (change.Pushed top.entry, (top, more, refl))
change_made pushes before after (inr (inr (top, less))) = (change.TakenOff top.entry, (top, less, refl))

change_there : (world next : WorldShape) (host : HostId) (before after : HostState) (pushes : Option EntryId) →
    state_at world host ≡ Some before → state_at next host ≡ Some after →
    IsStackStep pushes before.entries after.entries →
    (did : Change) × HasChanged (entries_in (state_at world host)) (entries_in (state_at next host)) did
change_there world next host before after pushes was is steps =
    change_made pushes (entries_in (state_at world host)) (entries_in (state_at next host))
    (subst (λ (o : Option HostState). IsStackStep pushes (entries_in o) (entries_in (state_at next host))) (sym was)
    (subst (λ (o : Option HostState). IsStackStep pushes before.entries (entries_in o)) (sym is) steps))

some_change : (code : CodeShape) (world next : WorldShape) (event : Event) → IsStep code world event next →
    (did : Change)
    × HasChanged (entries_in (state_at world (mover event))) (entries_in (state_at next (mover event))) did
some_change code world next (Turn host) step =
    let thread = thread_there step.state.running step.runs in
    change_there world next host step.state step.outcome.state _ step.obeys (after_turn code world next host step)
    (turn_stacks code step.state thread.0 step.outcome thread.1 step.turns)
some_change code world next (Take from to place) step =
    change_there world next to step.state step.outcome.state _ step.obeys
    (after_take code world next from to place step)
    (taking_stacks code step.state from step.flight.message step.outcome step.takes)
some_change code world next (Act from to made) step =
    change_there world next to step.state step.outcome.state _ step.obeys
    (after_act code world next from to made step)
    (taking_stacks code step.state from step.message step.outcome step.takes)

-- ---- what it was sent

-- nothing more is in flight than before, or one message of this host
abbrev pub Posted : Flying → HostId → Flying → Type 0
Posted before from after =
    (after ≡ before)
    ⊎ ((to : HostId) × (flight : Flight) × (after ≡ with_flights before from to (before from to ++ flight ∷ [])))

telling : (world : WorldShape) (from : HostId) (sent : Option (HostId × Message)) →
    (after_telling world from sent).flying ≡ world.flying
telling world from None = refl
telling world from (Some sent) = refl

either : (bad : Bool) (tells posts : WorldShape) (before : Flying) (from : HostId) → Posted before from tells.flying →
    Posted before from posts.flying → Posted before from (if bad then tells else posts).flying
either true tells posts before from first second = first
either false tells posts before from first second = second

sending : (world : WorldShape) (from : HostId) (letter : Option Letter) →
    Posted world.flying from (after_sending world from letter).flying
sending world from None = inl refl
sending world from (Some letter) =
    either (misbehaves world letter.to) _ _ world.flying from (inl refl) (inr (letter.to, _, refl))

left : (old after : WorldShape) (before : Flying) (from : HostId) → old ≡ after → Posted before from old.flying →
    Posted before from after.flying
left old after before from same = subst (λ (w : WorldShape). Posted before from w.flying) same

posted : (code : CodeShape) (world next : WorldShape) (event : Event) → IsStep code world event next →
    Posted (flying_left world event) (mover event) next.flying
posted code world next (Take from to place) step =
    left _ next _ to step.leaves
    (sending (with_state (without_flight world from to place) to step.outcome.state) to
    (letter_of (Some step.flight.label) step.outcome.sent))
posted code world next (Turn host) step =
    left _ next _ host step.leaves
    (sending (with_state world host step.outcome.state) host
    (letter_of (label_of_turn code step.state) step.outcome.sent))
posted code world next (Act from to made) step =
    left _ next _ to step.leaves (inl (telling (with_state world to step.outcome.state) to step.outcome.sent))

some_posting : (world next : WorldShape) (event : Event) → Posted (flying_left world event) (mover event) next.flying →
    (posts : Option HostId) × IsPosting world event next posts
some_posting world next event (inl same) = (None, same)
some_posting world next event (inr (to, flight, more)) = (Some to, (flight, more))

-- ---- whether the program halted

true_or_not : (b : Bool) → IsTrue b ⊎ ¬ IsTrue b
true_or_not true = inl refl
true_or_not false = inr (λ is. absurd (let no : false ≡ true = is in cc))

halted_or_not : (host : Option HostState) →
    IsSomeAnd host (λ state. IsTrue state.halted) ⊎ ¬ IsSomeAnd host (λ state. IsTrue state.halted)
halted_or_not None = inr (λ none. none)
halted_or_not (Some state) = true_or_not state.halted

abbrev pub Told : Type 0 → Type 0
Told P = (is : Bool) × (IsTrue is ↔ P)

told_new : {P Q : Type 0} → P ⊎ ¬ P → Q ⊎ ¬ Q → Told (P × ¬ Q)
told_new (inl now) (inl before) =
    (false, (λ is. absurd (let no : false ≡ true = is in cc), λ both. absurd (both.1 before)))
told_new (inl now) (inr never) = (true, (λ is. (now, never), λ both. refl))
told_new (inr never) other = (false, (λ is. absurd (let no : false ≡ true = is in cc), λ both. absurd (never both.0)))

-- ---- rows

abbrev pub RowOf : CodeShape → Moment → ℕ × Event → WorldShape → Type 0
RowOf code at one next = (row : Row) × IsRunRow code at.world one next row × IsSending at one.1 next row

row_made : SomeWhy → (code : CodeShape) (at : Moment) (one : ℕ × Event) (next : WorldShape) →
    IsStep code at.world one.1 next → RowOf code at one next
row_made whys code at one next step =
    let event = one.1 in
    let found = some_what code at.world next event step in
    let ignored = some_ignoring whys code at.world next event step in
    let telling = told at.world.sent next.sent (one_more code at.world next event step) in
    let did = some_change code at.world next event step in
    let halts : Told (has_halted code.root next × ¬ has_halted code.root at.world) =
    told_new (halted_or_not (state_at next code.root)) (halted_or_not (state_at at.world code.root)) in
    let posts = some_posting at.world next event (posted code at.world next event step) in (
      record {
        line = one.0;
        what = found.0;
        sent_by = sender_of at.senders event;
        posts = posts.0;
        ignored = ignored.0;
        told = if nat_lt (length at.world.sent) (length next.sent) then Some (length at.world.sent) else None;
        change = did.0;
        halts = halts.0;
        runs = runs_in (state_at next (mover event));
        waits = waits_in (state_at next (mover event));
      },
      record {
        line = refl;
        what = found.1;
        ignored = ignored.1;
        told = telling;
        change = did.1;
        halts = halts.1;
        runs = refl;
        waits = refl;
      },
      record { posts = posts.1; sent_by = refl },
    )

-- events have rows, which lead to this world
abbrev pub HaveRows : CodeShape → Moment → List (ℕ × Event) → WorldShape → Type 0
HaveRows code at said last =
    (rows : List Row) × (end : Moment) × IsPictured code at said rows end × (end.world ≡ last)

pub some_rows : SomeWhy → (code : CodeShape) (at : Moment) (said : List (ℕ × Event)) (last : WorldShape) →
    IsRun code at.world (events_in said) last → HaveRows code at said last
some_rows whys code at [] last ran = ([], at, (refl, refl), ran)
some_rows whys code at (one ∷ said) last (next, step, ran) =
    let made = row_made whys code at one next step in
    let later = some_rows whys code (moment_after at one.1 next made.0.posts) said last ran in (
      made.0 ∷ later.0,
      later.1,
      (next, made.0, later.0, step, made.1, made.2, refl, later.2),
      later.3,
    )
