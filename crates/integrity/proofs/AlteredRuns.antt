-- Where the root obeys, the hosts follow an altered run, whatever misbehaving hosts are told and sent.
use Rattle.std.proofs.Common.{◌≡◌, ◌⊎◌, inl, inr, ℕ, ℤ, List, [], ◌∷◌, ◌++◌, Some, refl}
use Rattle.std.proofs.Common.{sym, ap, subst}
use Rattle.std.specs.Prelude.{All, IsSomeAnd}
use Rattle.std.proofs.lemmas.List.Elements.{All-push, All-nil}
use Rattle.js_base.specs.declared.ids.HostId.{HostId}
use Rattle.host_decl.specs.Hosts as declared_hosts
use Rattle.jif_tree.specs.Altered as altering
use Rattle.jif_tree.specs.Altered.{MayStep}
use Rattle.jif_tree.specs.SourceRun.{Configuration, IsAtEnd, configuration_at_start}
use Rattle.host_code.specs.Thread.{WaitingShape}
use Rattle.host_core.specs.Host.{HostState}
use Rattle.event_text.specs.declared.event.Event.{Event}
use Rattle.event_text.specs.declared.event.Event.TheVariants.{Take, Turn, Act}
use Rattle.event_text.specs.declared.event.BadMessage.{BadMessage}
use Rattle.split_rules.specs.Placed.{PlacedProgram}
use Rattle.split_rules.specs.Held.{IsWellHeld}
use Rattle.split_rules.specs.Allowed.{IsAllowed}
use Rattle.split_rules.specs.Splittable.{IsSplittable}
use Rattle.net_world.specs.Fits.{HasOwnToken}
use Rattle.net_world.specs.World.{WorldShape, IsStep, IsTurnStep, IsActStep, state_at, tokens_sent}
use Rattle.net_world.specs.World.{world_at_start}
use Rattle.net_world.proofs.GoingOn.{IsKept, along}
use Rattle.token_laws.specs.Numbers.{CodeHasNumbers, RowsHaveNumbers, EventHasNumbers, MessageHasNumbers}
use Rattle.token_laws.specs.Reached.{IsReached}
use Rattle.token_laws.proofs.Walks.{one_more}
use Rattle.typed_steps.specs.Views.{Split, View}
use Rattle.integrity.specs.Altering.{StandsFor, GoesOnAltered, WorldFollowsAltered}
use Rattle.integrity.specs.Exposed.{bad_labels}
use Rattle.integrity.specs.Holding.{Holder, runs, asked, answered, stuck, passes, lost, halted, IsHoldersEvent}
use Rattle.integrity.specs.Holding.{OwnsRunning}
use Rattle.integrity.specs.Holding.{OwnsMessage}
use Rattle.integrity.specs.Loose as loosening
use Rattle.integrity.specs.Loose.{StandsLoosely, Loosens, Recovers}
use Rattle.integrity.specs.Outside.{Threat, threat_of}
use Rattle.integrity.specs.Standing as standing
use Rattle.integrity.specs.Standing.{threat_in, StandsBy, Goes, Stalls, HolderDoes}
use Rattle.integrity.proofs.ActMoves.{answer_numbers, holder_acted}
use Rattle.integrity.proofs.LooseLaws.{recovers}
use Rattle.integrity.proofs.LooseTurns.{holder_goes}
use Rattle.integrity.proofs.TakeLaws.{holder_taken}
use Rattle.integrity.proofs.OwnEvents.{decide_take, decide_turn, decide_act, no_act}
use Rattle.integrity.proofs.TightKept.{IsLawful}
use Rattle.integrity.proofs.OutsideLaws.{AreLaws}
use Rattle.integrity.proofs.StandsAtStart.{stands_at_start}
use Rattle.integrity.proofs.StandsOn.{stands_kept}
use Rattle.integrity.proofs.TightLaws.{lawful}

-- ---- worlds along events

-- The world stands for the configuration, by a holder or loosely.
data Stands (split : Split) (world : WorldShape) (c : Configuration) : Type 0 where
  tight : (view : View) (holder : Holder) → StandsBy split c view holder world → Stands split world c
  loose : (view : View) → StandsLoosely split c view world → Stands split world c

-- what is kept
record Follows (split : Split) (rows : List declared_hosts.HostShape) (bad : ℕ) (store : List (List ℤ))
    (world : WorldShape) (c : Configuration) : Type 0 where
  events : List Event
  reach : IsReached split.code rows bad store events world
  said : All EventHasNumbers events
  stands : Stands split world c

-- what is known of an event
record IsLawfulEvent (start : WorldShape) (event : Event) : Type 0 where
  own : HasOwnToken start event
  numbers : EventHasNumbers event

-- the fields and the end of a configuration
halted_ends : (split : Split) (c : Configuration) (view : View) (holder : Holder) → HolderDoes split c view holder →
    holder ≡ halted → IsAtEnd c
halted_ends split c view holder does is = (subst (HolderDoes split c view) is does).2

same_or : {X : Type 0} (x y : X) (A : Type 0) → (x ≡ y) ⊎ A → ¬ A → x ≡ y
same_or x y A (inl same) never = same
same_or x y A (inr a) never = absurd (never a)

stands_for : (split : Split) (world : WorldShape) (c : Configuration) → Stands split world c →
    StandsFor split.code split.exposure world c
stands_for split world c (tight view holder stands) = record {
  fields = λ number field state there at apart. same_or _ _ _ (stands.holds.fields number field state there at) apart;
  halted = λ has. halted_ends split c view holder stands.does (stands.halts has);
}
stands_for split world c (loose view stands) = record {
  fields = λ number field state there at apart. same_or _ _ _ (stands.holds.fields number field state there at) apart;
  halted = λ has. absurd (stands.goes_on has);
}

-- ---- the law

module _ (laws : AreLaws) (split : Split) (placed : PlacedProgram) (bad : ℕ) (store : List (List ℤ))
    (same : threat_in split ≡ threat_of placed split.table bad)
    (splittable : IsSplittable placed) (allowed : IsAllowed placed)
    (held : IsWellHeld placed)
    (code_numbers : CodeHasNumbers split.code) (store_numbers : RowsHaveNumbers store) where
  abbrev Fits : Event → Type 0
  Fits = IsLawfulEvent (world_at_start split.code placed.hosts.hosts bad store)

  -- the program goes on, and the world stands for what it has come to
  abbrev GoesOnHere : Configuration → WorldShape → Type 0
  GoesOnHere c after =
      (now : Configuration) × GoesOnAltered split.program split.exposure c now
      × Follows split placed.hosts.hosts bad store after now

  exposed : split.exposure.bad ≡ bad_labels bad 0 placed.hosts.hosts
  exposed = ap (λ (t : Threat). t.exposure.bad) same

  module _ (world after : WorldShape) (c : Configuration) (event : Event)
      (it : Follows split placed.hosts.hosts bad store world c) (fits : Fits event)
      (step : IsStep split.code world event after) where
    next_follows : (now : Configuration) → Stands split after now → Follows split placed.hosts.hosts bad store after now
    next_follows now stands = record {
      events = it.events ++ event ∷ [];
      reach = one_more split.code placed.hosts.hosts bad store it.events world after event it.reach fits.own step;
      said = All-push EventHasNumbers it.events event it.said fits.numbers;
      stands = stands;
    }

    here : Stands split after c → GoesOnHere c after
    here stands = (c, ([], refl), next_follows c stands)

    stepped : (now : Configuration) → MayStep split.program split.exposure c c.pending now → Stands split after now →
        GoesOnHere c after
    stepped now does stands = (now, (now ∷ [], (altering.steps does, refl)), next_follows now stands)

    goes_on : Goes split c after → GoesOnHere c after
    goes_on (standing.stays view holder free stands) = here (tight view holder stands)
    goes_on (standing.steps now view holder free does stands) = stepped now does (tight view holder stands)

    stalls_on : (host : HostId) → Stalls split c host after → GoesOnHere c after
    stalls_on host (standing.waits view waiting stands) = here (tight view (stuck host waiting) stands)
    stalls_on host (standing.waits_behind now view waiting does stands) =
        stepped now does (tight view (stuck host waiting) stands)

    loosens_on : Loosens split c after → GoesOnHere c after
    loosens_on l = (l.now, (l.more, l.altered), next_follows l.now (loose l.view l.stands))

    recovers_on : Recovers split c after → GoesOnHere c after
    recovers_on (loosening.waits view stands) = here (loose view stands)
    recovers_on (loosening.goes_on view holder free stands) = here (tight view holder stands)

    is : IsLawful (threat_in split) world
    is = lawful (threat_in split) placed.hosts.hosts bad store it.events world exposed it.reach

    from_loose : (view : View) → StandsLoosely split c view world → GoesOnHere c after
    from_loose view stands =
        recovers_on (recovers laws split placed bad store it.events world after event c view same
        splittable allowed it.reach fits.own step stands)

    turn_on : (host : HostId) → Goes split c after ⊎ (Stalls split c host after ⊎ Loosens split c after) →
        GoesOnHere c after
    turn_on host (inl goes) = goes_on goes
    turn_on host (inr (inl stalls)) = stalls_on host stalls
    turn_on host (inr (inr loosens)) = loosens_on loosens

    module _ (view : View) where
      outside : (holder : Holder) → StandsBy split c view holder world → ¬ IsHoldersEvent holder world event →
          GoesOnHere c after
      outside holder stands apart =
          here (tight view holder
          (stands_kept laws split placed bad store it.events world after event c view holder same
          splittable allowed it.reach fits.own step stands apart))

      turn_own : (host : HostId) (holder : Holder) → OwnsRunning holder host → StandsBy split c view holder world →
          IsTurnStep split.code world host after → GoesOnHere c after
      turn_own host (runs other thread) own stands turns =
          turn_on host
          (holder_goes laws split placed bad store it.events world after host thread c view same
          splittable allowed held it.reach code_numbers store_numbers it.said turns
          (subst (λ h. StandsBy split c view (runs h thread) world) (sym own) stands))
      turn_own host (asked other w m) own stands turns = absurd own
      turn_own host (answered other w m) own stands turns = absurd own
      turn_own host (stuck other w) own stands turns = absurd own
      turn_own host (passes from to m) own stands turns = absurd own
      turn_own host lost own stands turns = absurd own
      turn_own host halted own stands turns = absurd own

      acted_on : (host : HostId) (waiting : WaitingShape) →
          Goes split c after ⊎ StandsBy split c view (stuck host waiting) after → GoesOnHere c after
      acted_on host waiting (inl goes) = goes_on goes
      acted_on host waiting (inr stands) = here (tight view (stuck host waiting) stands)

      answered_at : (host : HostId) (w : WaitingShape) (made : BadMessage) →
          IsHoldersEvent (stuck host w) world (Act w.asked host made) →
          (acts : IsActStep split.code world w.asked host made after) →
          HasOwnToken (world_at_start split.code placed.hosts.hosts bad store) (Act w.asked host made) →
          MessageHasNumbers acts.message → StandsBy split c view (stuck host w) world → GoesOnHere c after
      answered_at host w made own acts own_token numbers stands =
          acted_on host w
          (holder_acted split placed.hosts.hosts bad store it.events world after c view exposed it.reach host w stands
          made
          own_token acts numbers own)

      answered_by : (host : HostId) (w : WaitingShape) (from to : HostId) (made : BadMessage) → w.asked ≡ from →
          host ≡ to → IsHoldersEvent (stuck host w) world (Act from to made) →
          (acts : IsActStep split.code world from to made after) →
          HasOwnToken (world_at_start split.code placed.hosts.hosts bad store) (Act from to made) →
          MessageHasNumbers acts.message → StandsBy split c view (stuck host w) world → GoesOnHere c after
      answered_by host w from to made first second =
          subst (λ f. IsHoldersEvent (stuck host w) world (Act f to made) →
          (acts : IsActStep split.code world f to made after) →
          HasOwnToken (world_at_start split.code placed.hosts.hosts bad store) (Act f to made) →
          MessageHasNumbers acts.message → StandsBy split c view (stuck host w) world → GoesOnHere c after) first
          (subst (λ t. IsHoldersEvent (stuck host w) world (Act w.asked t made) →
          (acts : IsActStep split.code world w.asked t made after) →
          HasOwnToken (world_at_start split.code placed.hosts.hosts bad store) (Act w.asked t made) →
          MessageHasNumbers acts.message → StandsBy split c view (stuck host w) world → GoesOnHere c after) second
          (answered_at host w made))

      act_own : (holder : Holder) (from to : HostId) (made : BadMessage) →
          IsHoldersEvent holder world (Act from to made) →
          (acts : IsActStep split.code world from to made after) →
          HasOwnToken (world_at_start split.code placed.hosts.hosts bad store) (Act from to made) →
          EventHasNumbers (Act from to made) → StandsBy split c view holder world → GoesOnHere c after
      act_own (stuck host w) from to made own acts own_token numbers stands =
          let its = subst (λ o. IsSomeAnd o (OwnsMessage (stuck host w) from to)) acts.makes own in
          answered_by host w from to made (sym its.0) (sym its.1) own acts own_token
          (answer_numbers (tokens_sent world) made acts.message w.request numbers acts.makes its.2) stands
      act_own (runs host thread) from to made own acts own_token numbers stands =
          absurd (no_act split c view world is (runs host thread) tt stands from to made acts.bad own)
      act_own (asked host w m) from to made own acts own_token numbers stands =
          absurd (no_act split c view world is (asked host w m) tt stands from to made acts.bad own)
      act_own (answered host w m) from to made own acts own_token numbers stands =
          absurd (no_act split c view world is (answered host w m) tt stands from to made acts.bad own)
      act_own (passes sender target m) from to made own acts own_token numbers stands =
          absurd (no_act split c view world is (passes sender target m) tt stands from to made acts.bad own)
      act_own lost from to made own acts own_token numbers stands =
          absurd (no_act split c view world is lost tt stands from to made acts.bad own)
      act_own halted from to made own acts own_token numbers stands =
          absurd (no_act split c view world is halted tt stands from to made acts.bad own)

  kept_tight : (world after : WorldShape) (c : Configuration) (event : Event) →
      (it : Follows split placed.hosts.hosts bad store world c) → (fits : Fits event) →
      (step : IsStep split.code world event after) → (view : View)
      (holder : Holder) → StandsBy split c view holder world → GoesOnHere c after
  kept_tight world after c (Turn host) it fits step view holder stands =
      elim (decide_turn split c view world (is world after c (Turn host) it fits step) holder host) [
        | inl own ↦ turn_own world after c (Turn host) it fits step view host holder own stands step
        | inr apart ↦ outside world after c (Turn host) it fits step view holder stands apart
      ]
  kept_tight world after c (Take from to place) it fits step view holder stands =
      elim (decide_take split c view world (is world after c (Take from to place) it fits step) holder stands from to
      place) [
        | inl own ↦
            goes_on world after c (Take from to place) it fits step
            (holder_taken split placed.hosts.hosts bad store it.events world after c view exposed it.reach code_numbers
            store_numbers it.said holder from to place stands step own)
        | inr apart ↦ outside world after c (Take from to place) it fits step view holder stands apart
      ]
  kept_tight world after c (Act from to made) it fits step view holder stands =
      elim (decide_act split c view world (is world after c (Act from to made) it fits step) holder stands from to
      made step.bad step.message step.makes) [
        | inl own ↦
            act_own world after c (Act from to made) it fits step view holder from to made own step fits.own
            fits.numbers stands
        | inr apart ↦ outside world after c (Act from to made) it fits step view holder stands apart
      ]

  kept_by : (world after : WorldShape) (c : Configuration) (event : Event) →
      (it : Follows split placed.hosts.hosts bad store world c) → (fits : Fits event) →
      (step : IsStep split.code world event after) →
      Stands split world c →
      GoesOnHere c after
  kept_by world after c event it fits step (tight view holder stands) =
      kept_tight world after c event it fits step view holder stands
  kept_by world after c event it fits step (loose view stands) = from_loose world after c event it fits step view stands

  kept : IsKept (StandsFor split.code split.exposure) (GoesOnAltered split.program split.exposure) split.code Fits
      (Follows split placed.hosts.hosts bad store)
  kept world after c event it fits step = kept_by world after c event it fits step it.stands

  pub follows : (events : List Event) (last : WorldShape) (state : HostState) →
      IsReached split.code placed.hosts.hosts bad store events last → All EventHasNumbers events →
      state_at (world_at_start split.code placed.hosts.hosts bad store) split.code.root ≡ Some state →
      WorldFollowsAltered split.program split.exposure split.code placed.hosts.hosts bad store events last
  follows events last state reach said obeys =
      let start = world_at_start split.code placed.hosts.hosts bad store in
      let begin = stands_at_start split placed.hosts.hosts bad store state obeys in
      along (StandsFor split.code split.exposure) (GoesOnAltered split.program split.exposure) split.code Fits
      (Follows split placed.hosts.hosts bad store) (λ world c it. stands_for split world c it.stands) kept events start
      last (configuration_at_start split.program store)
      (record {
        events = [];
        reach = record { sound = reach.sound; hosts = reach.hosts; own = All-nil _; ran = refl };
        said = All-nil EventHasNumbers;
        stands = tight begin.0 (runs split.code.root begin.1) begin.2;
      }) (λ k d less. record { own = reach.own k d less; numbers = said k d less }) reach.ran
