-- Where the root misbehaves, what misbehaving hosts may not affect is as it was at the start.
use Rattle.std.proofs.Common.{◌≡◌, ◌∙◌, ℕ, inl, inr, ℤ, List, [], ◌∷◌, ◌++◌}
use Rattle.std.proofs.Common.{refl, sym, subst, Option, Some, None}
use Rattle.std.specs.Prelude.{◌⊎◌, All, IsSomeAnd, IsTrue}
use Rattle.std.specs.Int.{bit_at}
use Rattle.std.proofs.lemmas.List.Elements.{All-nil}
use Rattle.host_decl.specs.Hosts as declared_hosts
use Rattle.jif_tree.specs.declared.program.Program.{Program}
use Rattle.jif_tree.specs.Altered.{Exposure, FieldIsAffected}
use Rattle.jif_tree.specs.SourceRun.{Configuration, configuration_at_start}
use Rattle.jif_tree.specs.Store.{row_of}
use Rattle.host_code.specs.Code.{CodeShape}
use Rattle.event_text.specs.declared.event.Event.{Event}
use Rattle.host_core.specs.Host.{HostState}
use Rattle.net_world.specs.Fits.{HasOwnToken}
use Rattle.net_world.proofs.GoingOn.{IsKept, along as along_events}
use Rattle.net_world.specs.World.{WorldShape, IsRun, world_at_start, state_at, has_halted}
use Rattle.split_rules.specs.Placed.{PlacedProgram, planned_from}
use Rattle.split_rules.specs.Allowed.{IsAllowed}
use Rattle.split_rules.specs.SplitCode.{split_code}
use Rattle.split_rules.specs.Splittable.{IsSplittable}
use Rattle.split_rules.specs.Typable.{IsTypable}
use Rattle.split_rules.specs.TypedCode.{Table, IsTypedCode}
use Rattle.token_laws.specs.Reached.{IsReached}
use Rattle.token_laws.proofs.Walks.{one_more}
use Rattle.integrity.specs.Altering.{StandsFor, GoesOnAltered, WorldFollowsAltered}
use Rattle.integrity.specs.Exposed.{FieldsStand, AreAsBefore, IsAsBefore, exposure_of}
use Rattle.integrity.specs.Outside.{threat_of}
use Rattle.integrity.proofs.OutsideLaws.{AreLaws, along}
use Rattle.integrity.proofs.Starts.{fields_at_start, outside_at_start, bad_at_start}

-- ---- what is as before stands

row_stands : {X : Type 0} (A : Type 0) (now was start : X) → (now ≡ was) ⊎ A → ¬ A → was ≡ start → now ≡ start
row_stands A now was start (inl is) apart same = is ∙ same
row_stands A now was start (inr may) apart same = absurd (apart may)

stands_from : (exposure : Exposure) (number : ℕ) (store : List (List ℤ)) (state : HostState)
    (found : Option HostState) →
    ((old : HostState) → found ≡ Some old → row_of old.rows number ≡ row_of store number) →
    IsSomeAnd found (λ old. IsAsBefore exposure old state) → ¬ FieldIsAffected exposure (record { 0 = number }) →
    row_of state.rows number ≡ row_of store number
stands_from exposure number store state None start stays apart = absurd stays
stands_from exposure number store state (Some old) start stays apart =
    row_stands (FieldIsAffected exposure (record { 0 = number })) _ _ _ (stays.rows (record { 0 = number })) apart
    (start old refl)

fields_stand : (code : CodeShape) (exposure : Exposure) (rows : List declared_hosts.HostShape) (bad : ℕ)
    (store : List (List ℤ)) (world : WorldShape) →
    AreAsBefore exposure (world_at_start code rows bad store) world → FieldsStand code exposure world store
fields_stand code exposure rows bad store world stays number field state there at apart =
    stands_from exposure number store state (state_at (world_at_start code rows bad store) field.host)
    (λ old obeyed. fields_at_start code rows bad store number field old there obeyed) (stays field.host state at) apart

-- ---- a root that misbehaves never halts

never_halts : (found first : Option HostState) (P : HostState → HostState → Type 0) →
    ((state : HostState) → found ≡ Some state → IsSomeAnd first (λ old. P old state)) → first ≡ None →
    ¬ IsSomeAnd found (λ host. IsTrue host.halted)
never_halts None first P stays none halted = halted
never_halts (Some state) first P stays none halted =
    subst (λ (o : Option HostState). IsSomeAnd o (λ old. P old state)) none (stays state refl)

root_runs : (code : CodeShape) (exposure : Exposure) (rows : List declared_hosts.HostShape) (bad : ℕ)
    (store : List (List ℤ)) (world : WorldShape) → bit_at bad code.root.0 ≡ 1 →
    AreAsBefore exposure (world_at_start code rows bad store) world → ¬ has_halted code.root world
root_runs code exposure rows bad store world misbehaving stays =
    never_halts (state_at world code.root) (state_at (world_at_start code rows bad store) code.root)
    (IsAsBefore exposure) (stays code.root) (bad_at_start code rows bad store code.root misbehaving)

-- ---- the laws

-- besides what opens, split programs have typed code
pub record AreSplitLaws : Type 0 where
  pub opening : AreLaws
  pub typable : (placed : PlacedProgram) →
      IsAllowed placed → IsTypable (planned_from placed)
  pub typed : (placed : PlacedProgram) → IsSplittable placed → IsTypable (planned_from placed) →
      (table : Table) × IsTypedCode (planned_from placed) (split_code placed) table

start_reached : (code : CodeShape) (rows : List declared_hosts.HostShape) (bad : ℕ) (store : List (List ℤ))
    (events : List Event) (world : WorldShape) → IsReached code rows bad store events world →
    IsReached code rows bad store [] (world_at_start code rows bad store)
start_reached code rows bad store events world reach =
    record { sound = reach.sound; hosts = reach.hosts; own = All-nil _; ran = refl }

module _ (laws : AreSplitLaws) (program : Program) (placed : PlacedProgram) (bad : ℕ) (store : List (List ℤ))
    (splittable : IsSplittable placed)
    (allowed : IsAllowed placed)
    (misbehaving : bit_at bad (split_code placed).root.0 ≡ 1) where
  -- at every moment
  stands_after : (events more : List Event) (world last : WorldShape) →
      IsReached (split_code placed) placed.hosts.hosts bad store events last →
      All (HasOwnToken (world_at_start (split_code placed) placed.hosts.hosts bad store)) more →
      IsRun (split_code placed)
      (world_at_start (split_code placed) placed.hosts.hosts bad store) more world →
      StandsFor (split_code placed) (exposure_of placed bad) world
      (configuration_at_start program store)
  stands_after events more world last reach own ran =
      let code = split_code placed in
      let exposure = exposure_of placed bad in
      let typed = laws.typed placed splittable (laws.typable placed allowed) in
      let stays =
      (along laws.opening placed typed.0 bad store [] more
      (world_at_start code placed.hosts.hosts bad store) world splittable allowed typed.1
      (start_reached code placed.hosts.hosts bad store events last reach) own ran
      (outside_at_start (threat_of placed typed.0 bad) placed.hosts.hosts bad store misbehaving)).1 in
      record {
        fields = fields_stand code exposure placed.hosts.hosts bad store world stays;
        halted = λ halted. absurd (root_runs code exposure placed.hosts.hosts bad store world misbehaving stays halted);
      }

  pub starting : (events : List Event) (world : WorldShape) →
      IsReached (split_code placed) placed.hosts.hosts bad store events world →
      StandsFor (split_code placed) (exposure_of placed bad) world
      (configuration_at_start program store)
  starting events world reach = stands_after events events world world reach reach.own reach.ran

  -- events lead to the world, and the program is at its start
  record StandsStill (world : WorldShape) (c : Configuration) : Type 0 where
    events : List Event
    reach : IsReached (split_code placed) placed.hosts.hosts bad store events world
    is : c ≡ configuration_at_start program store

  stays_still : IsKept (StandsFor (split_code placed) (exposure_of placed bad))
      (GoesOnAltered program (exposure_of placed bad)) (split_code placed)
      (HasOwnToken (world_at_start (split_code placed) placed.hosts.hosts bad store)) StandsStill
  stays_still world after c event it own step = (
    c,
    ([], refl),
    record {
      events = it.events ++ event ∷ [];
      reach = one_more (split_code placed) placed.hosts.hosts bad store it.events world after event it.reach own step;
      is = it.is;
    },
  )

  pub follows_nothing : (events : List Event) (world : WorldShape) →
      IsReached (split_code placed) placed.hosts.hosts bad store events world →
      WorldFollowsAltered program (exposure_of placed bad) (split_code placed) placed.hosts.hosts bad store events world
  follows_nothing events world reach =
      let code = split_code placed in
      let exposure = exposure_of placed bad in
      let start = world_at_start code placed.hosts.hosts bad store in
      let c = configuration_at_start program store in
      along_events (StandsFor code exposure) (GoesOnAltered program exposure) code (HasOwnToken start) StandsStill
      (λ there at it. subst (StandsFor code exposure there) (sym it.is) (starting it.events there it.reach)) stays_still
      events start world c
      (record { events = []; reach = start_reached code placed.hosts.hosts bad store events world reach; is = refl })
      reach.own reach.ran
