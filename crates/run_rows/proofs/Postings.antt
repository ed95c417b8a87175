-- What an event sends that is in flight then, and the numbers that stand beside it.
use Rattle.std.proofs.Common.{◌≡◌, ◌≢◌, ◌⊎◌, ◌∙◌, ℕ, zero, suc, ◌+◌, ◌<◌, ◌≤◌, Bool, true, false, List, [], ◌∷◌, ◌++◌}
use Rattle.std.proofs.Common.{length, Option, Some, None, ap, sym, refl, subst, arith, inl, inr, length-append}
use Rattle.std.proofs.Common.{length-set}
use Rattle.std.specs.Prelude.{◌==◌, ◌&&◌, if◌then◌else◌, MatchOption, All, remove, slice_get, slice_set, unwrap_or}
use Rattle.std.proofs.lemmas.Bool.Decides.{nat_tests}
use Rattle.std.proofs.lemmas.Bool.Decides.{eqb_tells}
use Rattle.std.proofs.lemmas.List.Edits.{length-remove}
use Rattle.std.proofs.lemmas.Option.{slice_get_within}
use Rattle.std.proofs.Common.{replicate}
use Rattle.std.proofs.lemmas.List.{length-replicate}
use Rattle.js_base.specs.declared.ids.HostId.{HostId}
use Rattle.js_base.proofs.Options.{some_same}
use Rattle.js_base.specs.declared.limits.TheConstants.{HOSTS}
use Rattle.host_code.specs.declared.message.Message.{Message}
use Rattle.host_code.specs.Code.{CodeShape}
use Rattle.host_code.specs.Sound.{IsSoundCode}
use Rattle.host_core.specs.Host.{Letter}
use Rattle.host_core.specs.Turn.{label_of_turn}
use Rattle.event_text.specs.declared.event.Event.{Event}
use Rattle.event_text.specs.declared.event.Event.TheVariants.{Take, Turn, Act}
use Rattle.net_world.specs.Fits.{ShapeFits, FlightFits}
use Rattle.net_world.specs.Flying.{Flight, Flying, with_flights, pair_place}
use Rattle.net_world.specs.World.{WorldShape, IsStep, misbehaves, with_state, without_flight, after_sending}
use Rattle.net_world.specs.World.{after_telling, letter_of, mover}
use Rattle.net_world.proofs.Present.{same_id}
use Rattle.run_rows.specs.declared.senders.TheConstants.{PAIRS}
use Rattle.run_rows.specs.Senders.{AreBeside, IsLonger, IsPosting, flying_left, senders_at, senders_left, senders_with}
use Rattle.run_rows.specs.Senders.{no_senders, senders_after}
use Rattle.run_rows.proofs.Ignoring.{numbered_host}
use Rattle.run_rows.proofs.StatesOf.{moved_state}
use Rattle.run_rows.proofs.SlotLists.{list_at, at_put, at_beside}
use Rattle.run_rows.proofs.StackLists.{at_last}

-- ---- one message at most

-- nothing more is in flight than before, or one message of this host
abbrev Posted : Flying → HostId → Flying → Type 0
Posted before from after =
    (after ≡ before)
    ⊎ ((to : HostId) × (flight : Flight) × (after ≡ with_flights before from to (before from to ++ flight ∷ [])))

telling : (world : WorldShape) (from : HostId) (sent : Option (HostId × Message)) →
    (after_telling world from sent).flying ≡ world.flying
telling world from None = refl
telling world from (Some sent) = refl

either : (bad : Bool) (told posted : WorldShape) (before : Flying) (from : HostId) → Posted before from told.flying →
    Posted before from posted.flying → Posted before from (if bad then told else posted).flying
either true told posted before from first second = first
either false told posted before from first second = second

sending : (world : WorldShape) (from : HostId) (letter : Option Letter) →
    Posted world.flying from (after_sending world from letter).flying
sending world from None = inl refl
sending world from (Some letter) =
    either (misbehaves world letter.to) _ _ world.flying from (inl refl) (inr (letter.to, _, refl))

left : (old after : WorldShape) (before : Flying) (from : HostId) → old ≡ after → Posted before from old.flying →
    Posted before from after.flying
left old after before from same = subst (λ (w : WorldShape). Posted before from w.flying) same

posted : (code : CodeShape) (world next : WorldShape) (event : Event) → IsStep code world event next →
    Posted (flying_left world event) (mover event) next.flying
posted code world next (Take from to place) step =
    left _ next _ to step.leaves
    (sending (with_state (without_flight world from to place) to step.outcome.state) to
    (letter_of (Some step.flight.label) step.outcome.sent))
posted code world next (Turn host) step =
    left _ next _ host step.leaves
    (sending (with_state world host step.outcome.state) host
    (letter_of (label_of_turn code step.state) step.outcome.sent))
posted code world next (Act from to made) step =
    left _ next _ to step.leaves (inl (telling (with_state world to step.outcome.state) to step.outcome.sent))

-- ---- numbers of one pair

put_at : (senders : List (List ℕ)) (from to i j : HostId) (numbers : List ℕ) (same : Bool) →
    (i.0 == from.0 && j.0 == to.0) ≡ same → length senders ≡ PAIRS → from.0 < HOSTS → to.0 < HOSTS → i.0 < HOSTS →
    j.0 < HOSTS →
    senders_at (slice_set senders (pair_place from to) numbers) i j ≡ (if same then numbers else senders_at senders i j)
put_at senders from to i j numbers true is pairs lt lt' low low' =
    let first : i.0 ≡ from.0 = grind (arith, nat_tests) in
    let second : j.0 ≡ to.0 = grind (arith, nat_tests) in
    let place : pair_place from to ≡ pair_place i j = omega arith in
    subst (λ (p : ℕ). list_at (slice_set senders (pair_place from to) numbers) p ≡ numbers) place
    (at_put senders (pair_place from to) numbers (omega arith))
put_at senders from to i j numbers false is pairs lt lt' low low' =
    at_beside senders (pair_place from to) (pair_place i j) numbers
    (λ place.
    let first : i.0 ≡ from.0 = omega arith in
    let second : j.0 ≡ to.0 = omega arith in
    absurd (grind (arith, nat_tests)))

same_length : (same : Bool) (numbers others : List ℕ) (flights behind : List Flight) → length numbers ≡ length flights →
    length others ≡ length behind →
    length (if same then numbers else others) ≡ length (if same then flights else behind)
same_length true numbers others flights behind first second = first
same_length false numbers others flights behind first second = second

beside_put : (senders : List (List ℕ)) (flying : Flying) (from to : HostId) (numbers : List ℕ) (flights : List Flight) →
    from.0 < HOSTS → to.0 < HOSTS → AreBeside senders flying → length numbers ≡ length flights →
    AreBeside (slice_set senders (pair_place from to) numbers) (with_flights flying from to flights)
beside_put senders flying from to numbers flights lt lt' beside same = (
  length-set senders (pair_place from to) numbers ∙ beside.0,
  λ i j low low'.
      ap length (put_at senders from to i j numbers (i.0 == from.0 && j.0 == to.0) refl beside.0 lt lt' low low')
      ∙ same_length (i.0 == from.0 && j.0 == to.0) numbers (senders_at senders i j) flights (flying i j) same
      (beside.1 i j low low'),
)

-- ---- hosts of what is in flight

pub all_there : {X : Type 0} (P : X → Type 0) (xs : List X) (i : ℕ) (x : X) → All P xs → slice_get xs i ≡ Some x → P x
all_there P [] i x all is = absurd (cc)
all_there P (y ∷ xs) zero x all is = subst P (some_same (Some y) y x refl is) (all 0 y (omega arith))
all_there P (y ∷ xs) (suc i) x all is = all_there P xs i x (λ k d lt. all (suc k) d (omega arith)) is

few : (code : CodeShape) (world : WorldShape) (from to : HostId) (place : ℕ) (flight : Flight) → IsSoundCode code →
    ShapeFits code world → slice_get (world.flying from to) place ≡ Some flight → (from.0 < HOSTS) × (to.0 < HOSTS)
few code world from to place flight sound fits there =
    let its : FlightFits code from to flight =
    all_there (FlightFits code from to) (world.flying from to) place flight (fits.mail.flying from to) there in
    let sender : from.0 < length code.hosts = its.sender in
    let target : to.0 < length code.hosts = its.target.0 in
    let most : length code.hosts ≤ HOSTS = sound.few_hosts in
    (omega arith, omega arith)

left_beside : (code : CodeShape) (world next : WorldShape) (event : Event) (senders : List (List ℕ)) →
    IsSoundCode code → ShapeFits code world → IsStep code world event next → AreBeside senders world.flying →
    AreBeside (senders_left senders event) (flying_left world event)
left_beside code world next (Turn host) senders sound fits step beside = beside
left_beside code world next (Act from to made) senders sound fits step beside = beside
left_beside code world next (Take from to place) senders sound fits step beside =
    let bounds = few code world from to place step.flight sound fits step.there in
    let same : length (senders_at senders from to) ≡ length (world.flying from to) =
    beside.1 from to bounds.0 bounds.1 in
    let within : place < length (world.flying from to) =
    slice_get_within (world.flying from to) place step.flight step.there in
    let one = length-remove (world.flying from to) place within in
    let other = length-remove (senders_at senders from to) place (omega (arith, same, within)) in
    beside_put senders world.flying from to (remove (senders_at senders from to) place)
    (remove (world.flying from to) place) bounds.0 bounds.1 beside (omega (arith, one, other, same))

-- ---- to whom an event sent

pub cell_same : (flying : Flying) (from to : HostId) (flights : List Flight) →
    with_flights flying from to flights from to ≡ flights
cell_same flying from to flights = cell (from.0 == from.0 && to.0 == to.0) (grind (arith, nat_tests))
  where
    cell : (is : Bool) → is ≡ true → (if is then flights else flying from to) ≡ flights
    cell true is = refl
    cell false is = absurd (cc)

pub cell_other : (flying : Flying) (from to other : HostId) (flights : List Flight) → other.0 ≢ to.0 →
    with_flights flying from to flights from other ≡ flying from other
cell_other flying from to other flights apart =
    cell (from.0 == from.0 && other.0 == to.0) (grind (arith, nat_tests))
  where
    cell : (is : Bool) → is ≡ false → (if is then flights else flying from other) ≡ flying from other
    cell true is = absurd (cc)
    cell false is = refl

-- what is found where more is in flight than has a number
abbrev pub IsFound : List (List ℕ) → WorldShape → HostId → Option HostId → Type 0
IsFound senders world from found =
    MatchOption found ((to : HostId) → to.0 < HOSTS → ¬ IsLonger senders world from to)
    (λ to. (to.0 < HOSTS) × IsLonger senders world from to)

Keeps : WorldShape → Event → WorldShape → List (List ℕ) → Option HostId → ℕ → Type 0
Keeps world event next senders found number =
    IsPosting world event next found × AreBeside (senders_with senders (mover event) found number) next.flying

-- nothing was sent that is in flight
none_sent : (world : WorldShape) (event : Event) (next : WorldShape) (senders : List (List ℕ)) (found : Option HostId)
    (number : ℕ) → AreBeside senders (flying_left world event) → next.flying ≡ flying_left world event →
    (mover event).0 < HOSTS → IsFound senders next (mover event) found → Keeps world event next senders found number
unfolding Keeps
none_sent world event next senders None number beside same low is =
    (same, subst (AreBeside senders) (sym same) beside)
none_sent world event next senders (Some to) number beside same low is =
    let long : length (next.flying (mover event) to) ≡ length (flying_left world event (mover event) to) =
    ap (λ (flying : Flying). length (flying (mover event) to)) same in
    let count = beside.1 (mover event) to low is.0 in
    absurd (omega (arith, long, count, is.1))

-- one message was
one_sent : (world : WorldShape) (event : Event) (next : WorldShape) (senders : List (List ℕ)) (to : HostId)
    (flight : Flight) (found : Option HostId) (number : ℕ) → AreBeside senders (flying_left world event) →
    next.flying
    ≡ with_flights (flying_left world event) (mover event) to
    (flying_left world event (mover event) to ++ flight ∷ []) →
    (mover event).0 < HOSTS → to.0 < HOSTS → IsFound senders next (mover event) found →
    Keeps world event next senders found number
unfolding Keeps
one_sent world event next senders to flight None number beside same low low' is =
    let from = mover event in
    let left = flying_left world event in
    let count = beside.1 from to low low' in
    let long : length (next.flying from to) ≡ length (left from to) + 1 =
    ap (λ (flying : Flying). length (flying from to)) same
    ∙ ap length (cell_same left from to (left from to ++ flight ∷ [])) ∙ length-append (left from to) (flight ∷ []) in
    absurd (is to low' (omega (arith, long, count)))
one_sent world event next senders to flight (Some other) number beside same low low' is =
    let from = mover event in
    let left = flying_left world event in
    elim (eqb_tells other.0 to.0) [
      | inl at ↦
          let it : to ≡ other = sym (same_id other to at.1) in
          let numbers = senders_at senders from to ++ number ∷ [] in
          let flights = left from to ++ flight ∷ [] in
          let more : length numbers ≡ length flights =
          length-append (senders_at senders from to) (number ∷ []) ∙ ap (λ (n : ℕ). n + 1) (beside.1 from to low low')
          ∙ sym (length-append (left from to) (flight ∷ [])) in
          subst (λ (h : HostId). IsPosting world event next (Some h)
          × AreBeside (senders_with senders from (Some h) number) next.flying) it (
            (flight, same),
            subst (AreBeside (slice_set senders (pair_place from to) numbers)) (sym same)
                (beside_put senders left from to numbers flights low low' beside more),
          )
      | inr apart ↦
          let count = beside.1 from other low is.0 in
          let long : length (next.flying from other) ≡ length (left from other) =
          ap (λ (flying : Flying). length (flying from other)) same
          ∙ ap length (cell_other left from to other (left from to ++ flight ∷ []) apart.1) in
          absurd (omega (arith, long, count, is.1))
    ]

-- the host of an event is one of few
mover_few : (code : CodeShape) (world next : WorldShape) (event : Event) → IsSoundCode code → ShapeFits code world →
    IsStep code world event next → (mover event).0 < HOSTS
mover_few code world next event sound fits step =
    let moved = moved_state code world next event step in
    let state = numbered_host code world (mover event) moved.0 fits moved.1 in
    let most : length code.hosts ≤ HOSTS = sound.few_hosts in
    omega (arith, state, most)

pub keeps_beside : (code : CodeShape) (world next : WorldShape) (event : Event) (senders : List (List ℕ))
    (found : Option HostId) (number : ℕ) → IsSoundCode code → ShapeFits code world → ShapeFits code next →
    IsStep code world event next → AreBeside senders world.flying →
    IsFound (senders_left senders event) next (mover event) found →
    IsPosting world event next found × AreBeside (senders_after senders event found number) next.flying
unfolding Keeps
keeps_beside code world next event senders found number sound fits later step beside is =
    let left = left_beside code world next event senders sound fits step beside in
    let low = mover_few code world next event sound fits step in
    elim (posted code world next event step) [
      | inl same ↦ none_sent world event next (senders_left senders event) found number left same low is
      | inr (to, flight, same) ↦
          let from = mover event in
          let before = flying_left world event from to in
          let there : slice_get (next.flying from to) (length before) ≡ Some flight =
          ap (λ (flying : Flying). slice_get (flying from to) (length before)) same
          ∙ ap (λ (flights : List Flight). slice_get flights (length before))
          (cell_same (flying_left world event) from to (before ++ flight ∷ []))
          ∙ at_last before flight (length before) refl in
          let low' = few code next from to (length before) flight sound later there in
          one_sent world event next (senders_left senders event) to flight found number left same low low'.1 is
    ]

-- the same of what the program found, and of the numbers that it has then
pub posts_found : (code : CodeShape) (world next : WorldShape) (event : Event) (senders left : List (List ℕ))
    (from : HostId) (found : Option HostId) (number : ℕ) (new : List (List ℕ)) → IsSoundCode code →
    ShapeFits code world → ShapeFits code next → IsStep code world event next → AreBeside senders world.flying →
    left ≡ senders_left senders event → from ≡ mover event → IsFound left next from found →
    new ≡ senders_with left from found number →
    IsPosting world event next found × (new ≡ senders_after senders event found number)
    × AreBeside new next.flying
posts_found code world next event senders left from found number new sound fits later step beside leaves mine is puts =
    let at = subst (λ (h : HostId). IsFound (senders_left senders event) next h found) mine
    (subst (λ (s : List (List ℕ)). IsFound s next from found) leaves is) in
    let kept = keeps_beside code world next event senders found number sound fits later step beside at in
    let now : new ≡ senders_after senders event found number =
    puts ∙ ap (λ (s : List (List ℕ)). senders_with s from found number) leaves
    ∙ ap (λ (h : HostId). senders_with (senders_left senders event) h found number) mine in
    (kept.0, now, subst (λ (s : List (List ℕ)). AreBeside s next.flying) (sym now) kept.1)

-- before the first event nothing is in flight
empty_at : (n place : ℕ) → unwrap_or (slice_get (replicate {A = List ℕ} n []) place) [] ≡ []
empty_at zero place = refl
empty_at (suc n) zero = refl
empty_at (suc n) (suc place) = empty_at n place

pub none_beside : (flying : Flying) → ((from to : HostId) → flying from to ≡ []) → AreBeside no_senders flying
none_beside flying none = (
  length-replicate {A = List ℕ} PAIRS [],
  λ from to low low'. ap length (empty_at PAIRS (pair_place from to)) ∙ sym (ap length (none from to)),
)
