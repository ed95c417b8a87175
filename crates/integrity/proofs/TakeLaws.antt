-- The law of the holder's messages that are taken.
use Rattle.std.proofs.Common.{◌≡◌, ◌∙◌, inl, inr, ℕ, ℤ, List, [], ◌∷◌, ◌++◌, Some, refl, sym, ap, subst}
use Rattle.std.specs.Prelude.{slice_get, All, IsSome, IsSomeAnd}
use Rattle.js_base.specs.declared.ids.HostId.{HostId}
use Rattle.host_decl.specs.Hosts as declared_hosts
use Rattle.jif_tree.specs.SourceRun.{Configuration}
use Rattle.capability.specs.declared.token.Token.{Token}
use Rattle.ics_stack.specs.declared.stack.StackEntry.{StackEntry}
use Rattle.ics_stack.specs.Stack.{top_token}
use Rattle.host_code.specs.declared.message.Message.{Message}
use Rattle.host_code.specs.Thread.{WaitingShape}
use Rattle.host_core.specs.Host.{HostState}
use Rattle.event_text.specs.declared.event.Event.{Event}
use Rattle.event_text.specs.declared.event.Event.TheVariants.{Take}
use Rattle.net_world.specs.Flying.{Flight}
use Rattle.net_world.specs.Told.{token_in}
use Rattle.net_world.specs.World.{WorldShape, IsTakeStep, state_at}
use Rattle.net_world.proofs.Fitting.{bad_differs}
use Rattle.token_laws.specs.Holders.{HoldsAt, IsTokenSent, in_flight}
use Rattle.token_laws.specs.Numbers.{CodeHasNumbers, RowsHaveNumbers, EventHasNumbers}
use Rattle.token_laws.specs.Reached.{IsReached}
use Rattle.token_laws.specs.Requests.{FlightSpot, number_asked, number_answered}
use Rattle.token_laws.proofs.AskedLaws.{one_under_way, ends_obey}
use Rattle.token_laws.proofs.HeldLaws.{held_once}
use Rattle.token_laws.proofs.Walks.{fits_there, one_more}
use Rattle.token_laws.proofs.WorldNumbers.{known_numbers}
use Rattle.token_laws.proofs.WorldTokens.{account}
use Rattle.token_laws.proofs.Tests.{some_found}
use Rattle.typed_steps.specs.Views.{Split, View, entries_of}
use Rattle.typed_steps.proofs.Pops.{top_of}
use Rattle.integrity.specs.Exposed.{bad_labels}
use Rattle.integrity.specs.Holding.{IsAmong, Holder, runs, asked, answered}
use Rattle.integrity.specs.Holding.{stuck, passes, lost, halted, IsHoldersEvent, OwnsMessage}
use Rattle.integrity.specs.Holding.{IsStanding}
use Rattle.integrity.specs.Standing.{threat_in, StandsBy, Goes}
use Rattle.integrity.proofs.Among.{each_among, one_of_some, some_of}
use Rattle.integrity.proofs.AnswerMoves.{asked_goes, answered_goes}
use Rattle.integrity.proofs.HolderLaws.{numbers_of}
use Rattle.integrity.proofs.PassMoves.{passes_goes}
use Rattle.integrity.proofs.TakeMoves.{Taking}
use Rattle.integrity.proofs.TightKept.{IsLawful, tokens_known}
use Rattle.integrity.proofs.TightLaws.{lawful}

-- a message of the holder's is the only one
abbrev pub IsOnly : Holder → WorldShape → HostId → HostId → ℕ → Type 0
IsOnly holder world from to place =
    (one other : HostId) (k : ℕ) (flight : Flight) → slice_get (world.flying one other) k ≡ Some flight →
    OwnsMessage holder one other flight.message → (one ≡ from) × (other ≡ to) × (k ≡ place)

pub state_of : (world : WorldShape) (host : HostId) (w : WaitingShape) →
    IsSomeAnd (state_at world host) (λ s. IsAmong s.waiting w) →
    (state : HostState) × (state_at world host ≡ Some state)
state_of world host w waits =
    let at = one_of_some (state_at world host) (λ s. IsAmong s.waiting w) waits in (at.one, at.is)

pub asked_only : (split : Split) (world : WorldShape) → IsLawful (threat_in split) world → (host : HostId)
    (w : WaitingShape) (m : Message) (state : HostState) → state_at world host ≡ Some state → (place : ℕ)
    (taken : Flight) → slice_get (world.flying host w.asked) place ≡ Some taken →
    number_asked taken.message ≡ Some w.request → IsOnly (asked host w m) world host w.asked place
asked_only split world is host w m state obeys place taken there number one other k flight at own =
    let first : FlightSpot = record { from = host; to = w.asked; place = k } in
    let second : FlightSpot = record { from = host; to = w.asked; place = place } in
    let Asks : Flight → Type 0 = λ f. number_asked f.message ≡ Some w.request in
    let here : slice_get (world.flying host w.asked) k ≡ Some flight =
    ap (λ h. slice_get (world.flying host h) k) (sym own.1) ∙ ap (λ h. slice_get (world.flying h other) k) (sym own.0)
    ∙ at in
    let same =
    one_under_way world host w.asked w.asked state w.request first second (is.asked.hosts host state obeys)
    (inl (refl, refl, some_of (slice_get (world.flying host w.asked) k) Asks flight here own.2))
    (inl (refl, refl, some_of (slice_get (world.flying host w.asked) place) Asks taken there number)) in
    (own.0, own.1, ap (λ (s : FlightSpot). s.place) same)

pub answered_only : (split : Split) (world : WorldShape) → IsLawful (threat_in split) world → (host : HostId)
    (w : WaitingShape) (m : Message) (state : HostState) → state_at world host ≡ Some state → (place : ℕ)
    (taken : Flight) → slice_get (world.flying w.asked host) place ≡ Some taken →
    number_answered taken.message ≡ Some w.request → IsOnly (answered host w m) world w.asked host place
answered_only split world is host w m state obeys place taken there number one other k flight at own =
    let first : FlightSpot = record { from = w.asked; to = host; place = k } in
    let second : FlightSpot = record { from = w.asked; to = host; place = place } in
    let Answers : Flight → Type 0 = λ f. number_answered f.message ≡ Some w.request in
    let here : slice_get (world.flying w.asked host) k ≡ Some flight =
    ap (λ h. slice_get (world.flying w.asked h) k) (sym own.1) ∙ ap (λ h. slice_get (world.flying h other) k)
    (sym own.0)
    ∙ at in
    let same =
    one_under_way world host w.asked w.asked state w.request first second (is.asked.hosts host state obeys)
    (inr (refl, refl, some_of (slice_get (world.flying w.asked host) k) Answers flight here own.2))
    (inr (refl, refl, some_of (slice_get (world.flying w.asked host) place) Answers taken there number)) in
    (own.0, own.1, ap (λ (s : FlightSpot). s.place) same)

-- the token of the first entry is in flight once
passed_once : (split : Split) (world : WorldShape) → IsLawful (threat_in split) world → (list : List StackEntry)
    (token : Token) → ((e : StackEntry) → IsAmong list e → IsStanding world e) → top_token list ≡ Some token →
    (from to : HostId) (k place : ℕ) → HoldsAt world token (in_flight from to k) →
    HoldsAt world token (in_flight from to place) → k ≡ place
passed_once split world is [] token standing top from to k place first second = absurd (cc)
passed_once split world is (e ∷ list) token standing top from to k place first second =
    let same : e.token ≡ token = cc in
    let it = standing e (0, refl) in
    let at = one_of_some (state_at world e.token.host) (λ state. IsAmong state.entries e) it.there in
    let obeys : IsSome (state_at world token.host) =
    subst (λ (t : Token). IsSome (state_at world t.host)) same (subst (λ o. IsSome o) (sym at.is) refl) in
    let spot =
    held_once split.code world token (in_flight from to k) (in_flight from to place)
    (tokens_known (threat_in split) world is) obeys (subst (λ
    (t : Token). ¬ IsTokenSent world t) same it.unsent) first second in
    cc

pub passes_only : (split : Split) (c : Configuration) (view : View) (world : WorldShape) →
    IsLawful (threat_in split) world → (from to : HostId) (m : Message) → StandsBy split c view
    (passes from to m) world →
    (place : ℕ) (taken : Flight) → slice_get (world.flying from to) place ≡ Some taken → taken.message ≡ m →
    IsOnly (passes from to m) world from to place
passes_only split c view world is from to m stands place taken there message_is one other k flight at own =
    let top = top_of split view.naming view.chain stands.does.0 in
    let Has : Flight → Type 0 = λ f. token_in f.message ≡ Some top.0 in
    let held : token_in m ≡ Some top.0 = stands.tight.has_top ∙ top.1 in
    let here : slice_get (world.flying from to) k ≡ Some flight =
    ap (λ h. slice_get (world.flying from h) k) (sym own.1) ∙ ap (λ h. slice_get (world.flying h other) k) (sym own.0)
    ∙ at in (
      own.0,
      own.1,
      passed_once split world is (entries_of view.chain) top.0
          (λ e. each_among (IsStanding world) (entries_of view.chain) e stands.tight.standing) top.1 from to k place
          (some_of (slice_get (world.flying from to) k) Has flight here (ap token_in own.2 ∙ held))
          (some_of (slice_get (world.flying from to) place) Has taken there (ap token_in message_is ∙ held)),
    )

-- ---- the law

module _ (split : Split) (rows : List declared_hosts.HostShape) (bad : ℕ) (store : List (List ℤ)) (events : List Event)
    (world after : WorldShape) (c : Configuration) (view : View)
    (same : split.exposure.bad ≡ bad_labels bad 0 rows) (reach : IsReached split.code rows bad store events world)
    (code_numbers : CodeHasNumbers split.code) (store_numbers : RowsHaveNumbers store)
    (said : All EventHasNumbers events) where
  here : IsLawful (threat_in split) world
  here = lawful (threat_in split) rows bad store events world same reach

  taking : (holder : Holder) (from to : HostId) (place : ℕ) → StandsBy split c view holder world →
      IsTakeStep split.code world from to place after → IsOnly holder world from to place →
      Taking split c view holder world after from to place
  taking holder from to place stands step only = record {
    stands = stands;
    lawful = here;
    fits = fits_there split.code rows bad store (events ++ Take from to place ∷ []) after
        (one_more split.code rows bad store events world after (Take from to place) reach tt step);
    account = account split.code world after (Take from to place) reach.sound here.fits tt step;
    step = step;
    numbers = numbers_of split world to step.state
        (known_numbers split.code rows bad store events world reach code_numbers store_numbers said) step.obeys;
    only = only;
  }

  taken_by : (holder : Holder) (from to : HostId) (place : ℕ) → StandsBy split c view holder world →
      (step : IsTakeStep split.code world from to place after) → OwnsMessage holder from to step.flight.message →
      Goes split c after
  taken_by (runs host thread) from to place stands step own = absurd own
  taken_by (asked host w m) from to place stands step own =
      asked_at host w m from to place stands step own.0 own.1 own.2
    where
      asked_at : (host : HostId) (w : WaitingShape) (m : Message) (from to : HostId) (place : ℕ) →
          StandsBy split c view (asked host w m) world → (step : IsTakeStep split.code world from to place after) →
          from ≡ host → to ≡ w.asked → number_asked step.flight.message ≡ Some w.request → Goes split c after
      asked_at host w m from to place stands step first second number =
          let state = state_of world host w stands.tight.there.0 in
          let Step : HostId → HostId → Type 0 =
          λ i j. (it : IsTakeStep split.code world i j place after)
          × (number_asked it.flight.message ≡ Some w.request) in
          let it : Step host w.asked = subst (Step host) second (subst (λ h. Step h to) first (step, number)) in
          asked_goes split c view host w m world after place
          (taking (asked host w m) host w.asked place stands it.0
          (asked_only split world here host w m state.0 state.1 place it.0.flight it.0.there it.1))
  taken_by (answered host w m) from to place stands step own =
      answered_at host w m from to place stands step own.0 own.1 own.2
    where
      answered_at : (host : HostId) (w : WaitingShape) (m : Message) (from to : HostId) (place : ℕ) →
          StandsBy split c view (answered host w m) world → (step : IsTakeStep split.code world from to place after) →
          from ≡ w.asked → to ≡ host → number_answered step.flight.message ≡ Some w.request → Goes split c after
      answered_at host w m from to place stands step first second number =
          let state = state_of world host w stands.tight.there.0 in
          let Step : HostId → HostId → Type 0 =
          λ i j. (it : IsTakeStep split.code world i j place after)
          × (number_answered it.flight.message ≡ Some w.request) in
          let it : Step w.asked host = subst (Step w.asked) second (subst (λ h. Step h to) first (step, number)) in
          answered_goes split c view host w m world after place
          (taking (answered host w m) w.asked host place stands it.0
          (answered_only split world here host w m state.0 state.1 place it.0.flight it.0.there it.1))
  taken_by (stuck host w) from to place stands step own =
      let ends = ends_obey split.code world from to place step.flight here.fits here.asked step.there in
      let state = some_found (state_at world from) ends.0 in
      absurd (bad_differs world w.asked from state.0 stands.tight.there.1 state.1 (sym own.0))
  taken_by (passes sender target m) from to place stands step own =
      passed_at sender target m from to place stands step own.0 own.1 own.2
    where
      passed_at : (sender target : HostId) (m : Message) (from to : HostId) (place : ℕ) →
          StandsBy split c view (passes sender target m) world →
          (step : IsTakeStep split.code world from to place after) → from ≡ sender → to ≡ target →
          step.flight.message ≡ m → Goes split c after
      passed_at sender target m from to place stands step first second is =
          let Step : HostId → HostId → Type 0 =
          λ i j. (it : IsTakeStep split.code world i j place after) × (it.flight.message ≡ m) in
          let it : Step sender target = subst (Step sender) second (subst (λ h. Step h to) first (step, is)) in
          passes_goes split c view m world after sender target place
          (taking (passes sender target m) sender target place stands it.0
          (passes_only split c view world here sender target m stands place it.0.flight it.0.there it.1))
  taken_by lost from to place stands step own = absurd own
  taken_by halted from to place stands step own = absurd own

  pub holder_taken : (holder : Holder) (from to : HostId) (place : ℕ) → StandsBy split c view holder world →
      IsTakeStep split.code world from to place after → IsHoldersEvent holder world (Take from to place) →
      Goes split c after
  holder_taken holder from to place stands step own =
      taken_by holder from to place stands step
      (subst (λ o. IsSomeAnd o (λ f. OwnsMessage holder from to f.message)) step.there own)
