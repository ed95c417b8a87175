-- A secret take leads to the same view.
use Rattle.std.proofs.Common.{◌≡◌, ◌∙◌, ℕ, ◌+◌, ◌<◌, Bool, true, false, List, [], ◌∷◌, length, Some, None, inl}
use Rattle.std.proofs.Common.{inr, refl, ap, sym, subst}
use Rattle.std.specs.Prelude.{◌==◌, ◌&&◌, ◌↔◌, ◌⊎◌, if◌then◌else◌, not, ℤ, IsSome, IsTrue, filter, remove, slice_get}
use Rattle.js_base.specs.declared.ids.HostId.{HostId}
use Rattle.js_base.specs.declared.ids.FrameId.{FrameId}
use Rattle.js_base.specs.declared.ids.VarId.{VarId}
use Rattle.js_base.specs.declared.ids.EntryId.{EntryId}
use Rattle.js_base.specs.declared.ids.RequestId.{RequestId}
use Rattle.capability.specs.declared.token.Token.{Token}
use Rattle.host_code.specs.declared.code.Entry.{Entry}
use Rattle.host_code.specs.declared.message.Message.{Message}
use Rattle.host_code.specs.declared.message.Message.TheVariants as message
use Rattle.host_code.specs.Code.{part_of, entry_at}
use Rattle.host_code.specs.Sound.{IsSoundCode}
use Rattle.host_code.specs.Thread.{ThreadShape, Awaited, WaitingShape}
use Rattle.host_code.specs.Thread.Awaited.{value_of_field, acknowledgement, token_of_entry}
use Rattle.entry_check.specs.declared.ask.Ask.TheVariants as ask
use Rattle.entry_check.specs.Checks.{May}
use Rattle.host_core.specs.Fits.{StateFits, WaitingFits}
use Rattle.host_core.specs.Host.{HostState, Outcome, with_variables_set, with_temporary, with_token, after_entering}
use Rattle.host_core.specs.Taking.{PassesCheck, IsTaking, after_taking, after_answer, place_of_awaiting}
use Rattle.event_text.specs.declared.event.Event.TheVariants.{Take}
use Rattle.net_world.specs.Fits.{ShapeFits}
use Rattle.net_world.specs.Flying.{Flight, with_flights}
use Rattle.net_world.specs.Secret.{IsSecret}
use Rattle.net_world.specs.World.{WorldShape, state_at, without_flight, after_step, IsStep}
use Rattle.net_world.proofs.Present.{same_id}
use Rattle.token_laws.proofs.HeldLaws.{all_at}
use Rattle.token_laws.proofs.Riding.{riding_is}
use Rattle.token_laws.proofs.Tests.{parts_same, number_same}
use Rattle.seen_world.specs.Eyes.{Eyes, AreEyes, Watches, sees_at}
use Rattle.seen_world.specs.Points.{AsksAt, WaitsWell, HostKeeps, IsAskedBy, FliesWell, IsLabelledAs, IsCheckedByLabels}
use Rattle.seen_world.specs.Points.{IsInFlight}
use Rattle.seen_world.specs.Points.{SetsHidden, IsDeepEntry, EntersHidden, PointsHold}
use Rattle.seen_world.proofs.Answered.{answer_carries}
use Rattle.seen_world.proofs.PointsAtStart.{own_state}
use Rattle.seen_world.proofs.PointsKept.{request_passes}
use Rattle.seen_world.proofs.SeenPlaces.{some_is}
use Rattle.seen_world.proofs.SecretSets.{flight_sets, flight_enters}
use Rattle.seen_world.proofs.SecretTurns.{held_by}
use Rattle.seen_world.proofs.SeenWorlds.{take_secret}
use Rattle.seen_world.proofs.TakesKept.{on_me}
use Rattle.agreement.specs.Leads.{UnseenHolder, nobody, runs, waits, flies, flies_on, HiddenEntry, IsMailOf, token_with}
use Rattle.agreement.specs.Leads.{FliesTo}
use Rattle.agreement.specs.Leads.{HeldAt}
use Rattle.agreement.specs.Leads.{Leads}
use Rattle.agreement.specs.Views.{LowView, Spot, at, OwedInView, sees_variable, flies_open}
use Rattle.agreement.proofs.AnswersTaken.{found_waiting, answer_ends}
use Rattle.agreement.proofs.Ends.{Ends, own_waiting}
use Rattle.agreement.proofs.HiddenTurns.{ends_leads}
use Rattle.agreement.proofs.Lists.{kept_some, only_taken}
use Rattle.agreement.proofs.Steps.{FliesAlone, taken_openly, taken_alike}
use Rattle.agreement.proofs.Takes.{Taken, get_ends, set_ends, forward_ends, deep_entry, enters_unseen, lgoto_ends}
use Rattle.agreement.proofs.Takes.{riders_stay, asking, sync_ends}

-- ---- who it is that goes on unseen

-- a message in flight belongs to a thread that waits unseen, or hands control over unseen
abbrev pub FliesUnseen : UnseenHolder → HostId → HostId → Flight → Type 0
FliesUnseen holder from to flight =
    ((host : HostId) × (waiting : WaitingShape) × (holder ≡ waits host waiting from to flight))
    ⊎ (holder ≡ flies from to flight)

-- the message that alone is in flight between these hosts
same_flight : (p : Flight → Bool) (flights : List Flight) (place : ℕ) (from to i j : HostId) (flight one : Flight)
    (A : Type 0) → (make : HostId → HostId → Flight → A) →
    filter p flights ≡ (if i.0 == from.0 && j.0 == to.0 then one ∷ [] else []) →
    slice_get flights place ≡ Some flight → p flight ≡ true → make from to one ≡ make i j flight
same_flight p flights place from to i j flight one A make is there passes =
    by (i.0 == from.0 && j.0 == to.0) refl is
  where
    by : (b : Bool) → (i.0 == from.0 && j.0 == to.0) ≡ b → filter p flights ≡ (if b then one ∷ [] else []) →
        make from to one ≡ make i j flight
    by true same only =
        let both = parts_same (i.0 == from.0) (j.0 == to.0) same in
        let first : i ≡ from = same_id i from (number_same i.0 from.0 both.0) in
        let second : j ≡ to = same_id j to (number_same j.0 to.0 both.1) in
        let third : flight ≡ one = (only_taken p flights place flight one there passes only).0 in
        ap (λ (h : HostId). make h to one) (sym first) ∙ ap (λ (h : HostId). make i h one) (sym second)
        ∙ ap (make i j) (sym third)
    by false same none = absurd (kept_some p flights place flight there passes none)

pub holder_flies : (holder : UnseenHolder) (p : Flight → Bool) (flights : List Flight) (place : ℕ) (from to : HostId)
    (flight : Flight) → filter p flights ≡ flies_on holder from to → slice_get flights place ≡ Some flight →
    p flight ≡ true → FliesUnseen holder from to flight
holder_flies nobody p flights place from to flight is there passes =
    absurd (kept_some p flights place flight there passes is)
holder_flies (runs host thread) p flights place from to flight is there passes =
    absurd (kept_some p flights place flight there passes is)
holder_flies (waits host waiting i j one) p flights place from to flight is there passes =
    inl (
      host,
      waiting,
      same_flight p flights place i j from to flight one UnseenHolder (waits host waiting) is there passes,
    )
holder_flies (flies i j one) p flights place from to flight is there passes =
    inr (same_flight p flights place i j from to flight one UnseenHolder flies is there passes)

-- ---- a thread that waits unseen

-- what is known of what the message says
record Says (eyes : Eyes) (state : HostState) (from : HostId) (label : ℕ) (said : Message) : Type 0 where
  asked : IsAskedBy eyes from state.me said
  labelled : IsLabelledAs eyes from state.me said label
  sets : SetsHidden eyes said
  enters : EntersHidden eyes said
  passes : IsCheckedByLabels said → PassesCheck eyes.code state from said

pub no_request : {A : Type 0} (one : RequestId) → None ≡ Some one → A
no_request one is = absurd (cc)

-- a message passes its check
passed : (eyes : Eyes) (state : HostState) (holder : UnseenHolder) (links : List HiddenEntry) (now shown : LowView)
    (label : ℕ)
    (from : HostId) (said : Message) (passes : Bool) → (IsTrue passes ↔ PassesCheck eyes.code state from said) →
    PassesCheck eyes.code state from said →
    Ends eyes state.me holder links now shown label (after_taking eyes.code state from said true) →
    Ends eyes state.me holder links now shown label (after_taking eyes.code state from said passes)
passed eyes state holder links now shown label from said passes checks holds ends =
    subst (λ (b : Bool). Ends eyes state.me holder links now shown label (after_taking eyes.code state from said b))
    (sym (checks.1 holds)) ends

-- an answer comes to the thread that waits for it
answered : (eyes : Eyes) (state : HostState) (host from : HostId) (waiting : WaitingShape) (flight : Flight)
    (links : List HiddenEntry) (before token : Token) (owed : OwedInView) (now shown : LowView) (awaited : Awaited)
    (request : RequestId) (said : Message) (passes : Bool) (goes : ThreadShape → ThreadShape) →
    Taken eyes state (waits host waiting from state.me flight) links
    (at host waiting.request.at waiting.thread.frame before) owed now shown from flight →
    StateFits eyes.code state → AsksAt eyes state.me request.at awaited from → Some request ≡ Some waiting.request →
    from ≡ waiting.asked → state.me ≡ host → before ≡ token → (goes waiting.thread).at ≡ waiting.thread.at →
    (goes waiting.thread).frame ≡ waiting.thread.frame → (goes waiting.thread).held ≡ Some token →
    (IsTrue passes ↔ PassesCheck eyes.code state from said) →
    (IsSome (place_of_awaiting state awaited request from) → PassesCheck eyes.code state from said) →
    record { state = after_answer state (place_of_awaiting state awaited request from) goes; sent = None }
    ≡ after_taking eyes.code state from said true →
    Ends eyes state.me (waits host waiting from state.me flight) links now shown flight.label
    (after_taking eyes.code state from said passes)
answered eyes state host from waiting flight links before token owed now shown awaited request said passes goes take
    fits
    asks number asked own same place frame held checks some leaves =
    let me = state.me in
    let mine : Taken eyes state (waits me waiting from me flight) links
    (at me waiting.request.at waiting.thread.frame before) owed now shown from flight =
    subst (λ (h : HostId). Taken eyes state (waits h waiting from me flight) links
    (at h waiting.request.at waiting.thread.frame before) owed now shown from flight) (sym own) take in
    let found = found_waiting eyes state from waiting awaited request
    (mine.hides.waiting ∙ own_waiting me from me waiting flight)
    (λ n one there. all_at (WaitsWell eyes me) state.waiting n one take.keeps.waiting there) asks
    (some_is number) asked in
    let fit : WaitingFits eyes.code me waiting =
    all_at (WaitingFits eyes.code me) state.waiting found.place waiting fits.waiting found.there in
    let within : waiting.request.at + 1 < length (part_of eyes.code me) =
    subst (λ (n : ℕ). n < length (part_of eyes.code me)) found.well.0 fit.place in
    let ends : Ends eyes me (waits me waiting from me flight) links now shown flight.label
    (after_taking eyes.code state from said true) =
    subst (Ends eyes me (waits me waiting from me flight) links now shown flight.label) leaves
    (answer_ends eyes state from waiting flight links before token owed now shown awaited request goes mine same found
    place frame held within) in
    passed eyes state (waits host waiting from me flight) links now shown flight.label from said passes checks
    (some (subst IsSome (sym found.is) refl))
    (subst (λ (h : HostId). Ends eyes me (waits h waiting from me flight) links now shown flight.label
    (after_taking eyes.code state from said true)) own ends)

waits_ends : (eyes : Eyes) (state : HostState) (host from : HostId) (waiting : WaitingShape) (flight : Flight)
    (links : List HiddenEntry) (token : Token) (owed : OwedInView) (now shown : LowView) (said : Message)
    (passes : Bool) →
    Taken eyes state (waits host waiting from state.me flight) links
    (at host waiting.request.at waiting.thread.frame token) owed now shown from flight → StateFits eyes.code state →
    token_with said waiting.thread.held ≡ Some token → IsMailOf host waiting from state.me said →
    Says eyes state from flight.label said → (IsTrue passes ↔ PassesCheck eyes.code state from said) →
    Ends eyes state.me (waits host waiting from state.me flight) links now shown flight.label
    (after_taking eyes.code state from said passes)
waits_ends eyes state host from waiting flight links token owed now shown (message.Get request field index) passes take
    fits carries (inl mail) says checks =
    passed eyes state _ links now shown flight.label from (message.Get request field index) passes checks (says.passes
    tt)
    (get_ends eyes state host from waiting flight links token owed now shown request field index take (record {
      request_is = some_is mail.0;
      asker = mail.1;
      asked = mail.2;
    }) carries)
waits_ends eyes state host from waiting flight links token owed now shown (message.Set request field index value) passes
    take fits carries (inl mail) says checks =
    passed eyes state _ links now shown flight.label from (message.Set request field index value) passes checks
    (says.passes tt)
    (set_ends eyes state host from waiting flight links token owed now shown request field index value take (record {
      request_is = some_is mail.0;
      asker = mail.1;
      asked = mail.2;
    }) carries says.sets)
waits_ends eyes state host from waiting flight links token owed now shown (message.Forward request frame x value) passes
    take fits carries (inl mail) says checks =
    passed eyes state _ links now shown flight.label from (message.Forward request frame x value) passes checks
    (says.passes tt)
    (forward_ends eyes state host from waiting flight links token owed now shown request frame x value take (record {
      request_is = some_is mail.0;
      asker = mail.1;
      asked = mail.2;
    }) carries says.sets)
waits_ends eyes state host from waiting flight links token owed now shown (message.Sync request frame entry kept) passes
    take fits carries (inl mail) says checks =
    let holds = says.passes tt in
    let asks = asking eyes from state.me request entry flight.label take.are says.asked says.labelled take.hidden in
    let deep = deep_entry eyes state.me entry take.are take.sound holds.0 (on_me eyes state.me from entry holds)
    says.enters in
    let same : token ≡ kept = sym (some_is carries) in
    subst (λ (t : Token). Ends eyes state.me (waits host waiting from state.me flight) links now shown flight.label
    (after_taking eyes.code state from (message.Sync request frame entry t) passes)) same
    (passed eyes state _ links now shown flight.label from (message.Sync request frame entry token) passes
    (subst (λ (t : Token). IsTrue passes ↔ PassesCheck eyes.code state from (message.Sync request frame entry t))
    (sym same)
    checks) holds
    (sync_ends eyes state host from waiting flight links token owed now shown request frame entry take (record {
      request_is = some_is mail.0;
      asker = mail.1;
      asked = mail.2;
    }) deep asks.hidden asks.deep))
waits_ends eyes state host from waiting flight links token owed now shown (message.Value request value) passes take fits
    carries (inr mail) says checks =
    answered eyes state host from waiting flight links token token owed now shown value_of_field request
    (message.Value request value) passes (with_temporary value) take fits says.asked mail.0 mail.1 mail.2 refl refl refl
    carries checks (λ some. some) refl
waits_ends eyes state host from waiting flight links token owed now shown (message.Ack request) passes take fits carries
    (inr mail) says checks =
    answered eyes state host from waiting flight links token token owed now shown acknowledgement request
    (message.Ack request) passes (λ thread. thread) take fits says.asked mail.0 mail.1 mail.2 refl refl refl carries
    checks (λ some. some) refl
waits_ends eyes state host from waiting flight links token owed now shown (message.Token request given) passes take fits
    carries (inr mail) says checks =
    answered eyes state host from waiting flight links token given owed now shown token_of_entry request
    (message.Token request given) passes (with_token (Some given)) take fits says.asked mail.0 mail.1 mail.2
    (sym (some_is carries)) refl refl refl checks (λ some. some) refl
waits_ends eyes state host from waiting flight links token owed now shown (message.Get request field index) passes take
    fits carries (inr mail) says checks = no_request waiting.request mail.0
waits_ends eyes state host from waiting flight links token owed now shown (message.Set request field index value) passes
    take fits carries (inr mail) says checks = no_request waiting.request mail.0
waits_ends eyes state host from waiting flight links token owed now shown (message.Forward request frame x value) passes
    take fits carries (inr mail) says checks = no_request waiting.request mail.0
waits_ends eyes state host from waiting flight links token owed now shown (message.Sync request frame entry kept) passes
    take fits carries (inr mail) says checks = no_request waiting.request mail.0
waits_ends eyes state host from waiting flight links token owed now shown (message.Value request value) passes take fits
    carries (inl mail) says checks = no_request waiting.request mail.0
waits_ends eyes state host from waiting flight links token owed now shown (message.Ack request) passes take fits carries
    (inl mail) says checks = no_request waiting.request mail.0
waits_ends eyes state host from waiting flight links token owed now shown (message.Token request given) passes take fits
    carries (inl mail) says checks = no_request waiting.request mail.0
waits_ends eyes state host from waiting flight links token owed now shown (message.Rgoto frame entry given) passes take
    fits carries (inl mail) says checks = no_request waiting.request mail.0
waits_ends eyes state host from waiting flight links token owed now shown (message.Rgoto frame entry given) passes take
    fits carries (inr mail) says checks = no_request waiting.request mail.0
waits_ends eyes state host from waiting flight links token owed now shown (message.RgotoWith frame entry given riders)
    passes take fits carries (inl mail) says checks = no_request waiting.request mail.0
waits_ends eyes state host from waiting flight links token owed now shown (message.RgotoWith frame entry given riders)
    passes take fits carries (inr mail) says checks = no_request waiting.request mail.0
waits_ends eyes state host from waiting flight links token owed now shown (message.Lgoto given) passes take fits carries
    (inl mail) says checks = no_request waiting.request mail.0
waits_ends eyes state host from waiting flight links token owed now shown (message.Lgoto given) passes take fits carries
    (inr mail) says checks = no_request waiting.request mail.0

-- ---- control that is handed over unseen

-- a thread starts at the entry of a message, whichever variables that may not be seen were set before
starts_ends : (eyes : Eyes) (state : HostState) (from : HostId) (flight : Flight) (links : List HiddenEntry)
    (spot : Spot)
    (owed : OwedInView) (now shown : LowView) (variables : FrameId → VarId → ℤ) (frame : FrameId) (entry : EntryId)
    (token : Token) → Taken eyes state (flies from state.me flight) links spot owed now shown from flight →
    FliesTo eyes state.me (message.Rgoto frame entry token) spot → May eyes.code state.me (ask.Enter entry) from →
    IsDeepEntry eyes entry.0 →
    ((other : FrameId) (x : VarId) → sees_variable eyes x ≡ true → variables other x ≡ state.variables other x) →
    Ends eyes state.me (flies from state.me flight) links now shown flight.label (record {
      state = after_entering (record state { variables = variables }) (entry_at eyes.code entry) frame token;
      sent = None;
    })
starts_ends eyes state from flight links spot owed now shown variables frame entry token take goes may enters stay =
    let me = state.me in
    let deep = deep_entry eyes me entry take.are take.sound may.0 (on_me eyes me from entry may) enters in
    let same : goes.0 ≡ deep.there = some_is (sym goes.1 ∙ deep.is) in
    let at_entry : Taken eyes state (flies from me flight) links (at me deep.there.at frame token) owed now shown from
    flight =
    subst (λ (there : Entry).
    Taken eyes state (flies from me flight) links (at me there.at frame token) owed now shown from flight) same
    (subst (λ (s : Spot). Taken eyes state (flies from me flight) links s owed now shown from flight) goes.3 take) in
    subst (λ found. Ends eyes me (flies from me flight) links now shown flight.label (record {
      state = after_entering (record state { variables = variables }) found frame token;
      sent = None;
    })) (sym deep.is)
    (enters_unseen eyes state from flight links token owed now shown variables frame entry deep at_entry stay)

flies_ends : (eyes : Eyes) (state : HostState) (from : HostId) (flight : Flight) (links : List HiddenEntry)
    (spot : Spot)
    (owed : OwedInView) (now shown : LowView) (said : Message) (passes : Bool) →
    Taken eyes state (flies from state.me flight) links spot owed now shown from flight →
    FliesTo eyes state.me said spot → Says eyes state from flight.label said →
    (IsTrue passes ↔ PassesCheck eyes.code state from said) →
    Ends eyes state.me (flies from state.me flight) links now shown flight.label
    (after_taking eyes.code state from said passes)
flies_ends eyes state from flight links spot owed now shown (message.Rgoto frame entry token) passes take goes says
    checks =
    let holds = says.passes tt in
    passed eyes state _ links now shown flight.label from (message.Rgoto frame entry token) passes checks holds
    (starts_ends eyes state from flight links spot owed now shown state.variables frame entry token take goes holds
    says.enters (λ other x seen. refl))
flies_ends eyes state from flight links spot owed now shown (message.RgotoWith frame entry token riders) passes take
    goes says checks =
    let me = state.me in
    let holds = says.passes tt in
    let ends = starts_ends eyes state from flight links spot owed now shown
    (with_variables_set state frame riders).variables frame entry token take goes holds.0 says.enters
    (riders_stay eyes state frame riders says.sets) in
    passed eyes state _ links now shown flight.label from (message.RgotoWith frame entry token riders) passes checks
    holds
    (subst (λ (one : HostState). Ends eyes me (flies from me flight) links now shown flight.label (record {
      state = after_entering one (entry_at eyes.code entry) frame token;
      sent = None;
    })) (riding_is state frame riders) ends)
flies_ends eyes state from flight links spot owed now shown (message.Lgoto token) passes take goes says checks =
    lgoto_ends eyes state from flight links token owed now shown passes
    (subst (λ (s : Spot). Taken eyes state (flies from state.me flight) links s owed now shown from flight) goes.1 take)
    goes.0 checks.0 checks.1
flies_ends eyes state from flight links spot owed now shown (message.Get request field index) passes take goes says
    checks = absurd goes
flies_ends eyes state from flight links spot owed now shown (message.Set request field index value) passes take goes
    says
    checks = absurd goes
flies_ends eyes state from flight links spot owed now shown (message.Forward request frame x value) passes take goes
    says
    checks = absurd goes
flies_ends eyes state from flight links spot owed now shown (message.Sync request frame entry token) passes take goes
    says checks = absurd goes
flies_ends eyes state from flight links spot owed now shown (message.Value request value) passes take goes says checks =
    absurd goes
flies_ends eyes state from flight links spot owed now shown (message.Ack request) passes take goes says checks =
    absurd goes
flies_ends eyes state from flight links spot owed now shown (message.Token request token) passes take goes says checks =
    absurd goes

-- ---- both

holder_ends : (eyes : Eyes) (state : HostState) (holder : UnseenHolder) (links : List HiddenEntry) (spot : Spot)
    (owed : OwedInView)
    (now shown : LowView) (from : HostId) (flight : Flight) (passes : Bool) →
    Taken eyes state holder links spot owed now shown from flight → FliesUnseen holder from state.me flight →
    HeldAt eyes holder spot → StateFits eyes.code state → Says eyes state from flight.label flight.message →
    (IsTrue passes ↔ PassesCheck eyes.code state from flight.message) →
    Ends eyes state.me holder links now shown flight.label (after_taking eyes.code state from flight.message passes)
holder_ends eyes state holder links spot owed now shown from flight passes take (inl is) held fits says checks =
    let me = state.me in
    let one = waits is.0 is.1 from me flight in
    let own : HeldAt eyes one spot = subst (λ h. HeldAt eyes h spot) is.2 held in
    subst (λ h. Ends eyes me h links now shown flight.label (after_taking eyes.code state from flight.message passes))
    (sym is.2)
    (waits_ends eyes state is.0 from is.1 flight links own.0 owed now shown flight.message passes
    (subst (λ (s : Spot). Taken eyes state one links s owed now shown from flight) own.2
    (subst (λ h. Taken eyes state h links spot owed now shown from flight) is.2 take)) fits own.1 own.3 says checks)
holder_ends eyes state holder links spot owed now shown from flight passes take (inr is) held fits says checks =
    let me = state.me in
    subst (λ h. Ends eyes me h links now shown flight.label (after_taking eyes.code state from flight.message passes))
    (sym is)
    (flies_ends eyes state from flight links spot owed now shown flight.message passes
    (subst (λ h. Taken eyes state h links spot owed now shown from flight) is take)
    (subst (λ h. HeldAt eyes h spot) is held) says checks)

flies_alone : (eyes : Eyes) (world : WorldShape) (holder : UnseenHolder) (from to : HostId) (flight : Flight) →
    FliesUnseen holder from to flight → (i j : HostId) →
    flies_on holder i j ≡ (if i.0 == from.0 && j.0 == to.0 then flight ∷ [] else [])
flies_alone eyes world holder from to flight (inl is) i j = ap (λ (h : UnseenHolder). flies_on h i j) is.2
flies_alone eyes world holder from to flight (inr is) i j = ap (λ (h : UnseenHolder). flies_on h i j) is

-- ---- a take

took : (eyes : Eyes) (world after : WorldShape) (from : HostId) (place : ℕ) (state : HostState) (flight : Flight)
    (outcome : Outcome) (shown : LowView) → AreEyes eyes → IsSoundCode eyes.code → Watches eyes world →
    ShapeFits eyes.code world → PointsHold eyes world → StateFits eyes.code state → eyes.bad state.me ≡ false →
    HostKeeps eyes state.me state → slice_get (world.flying from state.me) place ≡ Some flight →
    state_at world state.me ≡ Some state → state.running ≡ None → sees_at eyes flight.label ≡ false →
    IsTaking eyes.code state from flight.message outcome →
    after_step (without_flight world from state.me place) state.me outcome (Some flight.label) ≡ after →
    Leads eyes world shown → Leads eyes after shown
took eyes world after from place state flight outcome shown are sound watch fits points fit obeys own there at_me rests
    hidden takes leaves leads =
    let me = state.me in
    let keeps = leads.keeps in
    let flies_well : IsInFlight eyes from me flight =
    all_at (IsInFlight eyes from me) (world.flying from me) place flight (points.flying from me) there in
    let unseen : FliesUnseen keeps.holder from me flight =
    holder_flies keeps.holder (λ one. not (flies_open eyes one)) (world.flying from me) place from me flight
    (keeps.flying from me) there (ap not hidden) in
    let says : Says eyes state from flight.label flight.message = record {
      asked = flies_well.well.0;
      labelled = flies_well.labelled;
      sets = flight_sets eyes world from me place flight are points there hidden;
      enters = flight_enters eyes world from me place flight are points there hidden;
      passes = λ asks. request_passes eyes world from me place flight state fits points there at_me asks;
    } in
    let take : Taken eyes state keeps.holder keeps.links keeps.spot leads.owed leads.now shown from flight = record {
      are = are;
      sound = sound;
      obeys = obeys;
      keeps = own;
      rests = rests;
      hides = keeps.hides me state at_me;
      shows = leads.shows.hosts me state at_me;
      owes = keeps.owes;
      owed_well = keeps.well;
      completed = leads.completed;
      hidden = hidden;
    } in
    let ends : Ends eyes me keeps.holder keeps.links leads.now shown flight.label outcome =
    subst (Ends eyes me keeps.holder keeps.links leads.now shown flight.label) takes.2
    (holder_ends eyes state keeps.holder keeps.links keeps.spot leads.owed leads.now shown from flight takes.0 take
    unseen
    keeps.held fit says takes.1) in
    let alone : FliesAlone eyes world.flying from me flight =
    λ i j. keeps.flying i j ∙ flies_alone eyes world keeps.holder from me flight unseen i j in
    ends_leads eyes world after (with_flights world.flying from me (remove (world.flying from me) place)) me state
    outcome
    flight.label leads.owed keeps leads.now shown leads.shows watch at_me
    (taken_openly eyes world.flying from me place flight alone there hidden)
    (taken_alike eyes world.flying from me place flight there hidden) hidden
    (held_by (λ it. (it.0 ≡ from) × FliesWell eyes me it.0 it.1) (λ it. eyes.bad it.0 ≡ false) outcome.sent
    (λ it answer. ap eyes.bad answer.0 ∙ flies_well.obeys)
    (answer_carries eyes state from flight.message outcome are obeys flies_well.well.0 takes)) leaves ends

pub take_leads : (eyes : Eyes) (world after : WorldShape) (from to : HostId) (place : ℕ) (shown : LowView) →
    AreEyes eyes → IsSoundCode eyes.code → Watches eyes world → ShapeFits eyes.code world → PointsHold eyes world →
    IsStep eyes.code world (Take from to place) after → IsSecret eyes.code world (Take from to place) →
    Leads eyes world shown → Leads eyes after shown
take_leads eyes world after from to place shown are sound watch fits points step secret leads =
    let state = step.state in
    let flight = step.flight in
    let own = own_state eyes world to state watch fits points.hosts step.obeys in
    let me = own.fit.me in
    let hidden : sees_at eyes flight.label ≡ false =
    (take_secret eyes world from to place flight are watch step.there).1 secret in
    took eyes world after from place state flight step.outcome shown are sound watch fits points own.fit.fits own.obeys
    own.keeps (ap (λ (h : HostId). slice_get (world.flying from h) place) me ∙ step.there)
    (ap (state_at world) me ∙ step.obeys) step.rests hidden step.takes
    (ap (λ (h : HostId). after_step (without_flight world from h place) h step.outcome (Some flight.label)) me
    ∙ step.leaves) leads
