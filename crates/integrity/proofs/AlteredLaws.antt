-- The law of whole runs, for programs with a plan, whichever hosts misbehave.
use Rattle.std.proofs.Common.{◌≡◌, ◌∙◌, ℕ, zero, suc, ◌+◌, ◌<◌, ℤ, Bool, false, List, [], ◌∷◌, length, Some, None}
use Rattle.std.proofs.Common.{inl, inr, refl, sym, ap, subst, arith}
use Rattle.std.specs.Prelude.{◌==◌, if◌then◌else◌, slice_get, All}
use Rattle.std.specs.Int.{bit_at}
use Rattle.std.proofs.lemmas.Bool.{cases_Bool}
use Rattle.std.proofs.lemmas.List.{length-map}
use Rattle.host_decl.specs.Hosts as declared_hosts
use Rattle.jif_tree.specs.declared.program.Program.{Program}
use Rattle.host_code.specs.declared.code.Entry.{Entry}
use Rattle.host_code.specs.Code.{CodeShape, entry_at}
use Rattle.host_code.specs.Sound.{IsHost, IsSoundCode, EntryFits}
use Rattle.host_core.specs.Host.{HostState}
use Rattle.host_core.specs.Start.{host_at_start}
use Rattle.event_text.specs.declared.event.Event.{Event}
use Rattle.split_rules.specs.Placed.{PlacedProgram}
use Rattle.split_rules.specs.SplitCode.{split_code}
use Rattle.net_world.specs.World.{WorldShape, given, hosts_before, named_host, state_at, world_at_start}
use Rattle.token_laws.specs.Numbers.{CodeHasNumbers, RowsHaveNumbers, EventHasNumbers}
use Rattle.token_laws.specs.Reached.{IsReached}
use Rattle.token_laws.proofs.HeldLaws.{all_at}
use Rattle.token_laws.proofs.Tests.{number_same}
use Rattle.simulation.specs.Obeying.{IsSet}
use Rattle.simulation.proofs.Obeyed.{typed_split}
use Rattle.integrity.specs.Altering.{WorldFollowsAltered}
use Rattle.integrity.specs.Exposed.{exposure_of}
use Rattle.integrity.proofs.AlteredRuns.{follows}
use Rattle.integrity.proofs.Among.{one_of_some}
use Rattle.integrity.proofs.RootLaws.{AreSplitLaws, follows_nothing}

-- ---- who obeys at the start

root_is_host : (code : CodeShape) → IsSoundCode code → IsHost code code.root
root_is_host code sound =
    let main = one_of_some (entry_at code code.main) (λ (there : Entry). there.host ≡ code.root) sound.main in
    subst (IsHost code) main.has (all_at (EntryFits code) code.entries code.main.0 main.one sound.entries main.is).host

obeys_before : (code : CodeShape) (store : List (List ℤ)) (bad number : ℕ) (rows : List declared_hosts.HostShape)
    (place at : ℕ) → place < length rows → at ≡ number + place → (bit_at bad at == 1) ≡ false →
    (state : HostState) × (given (slice_get (hosts_before code store bad number rows) place) ≡ Some state)
obeys_before code store bad number [] place at within is obeys = absurd (omega arith)
obeys_before code store bad number (row ∷ rows) zero at within is obeys =
    let same : number ≡ at = omega arith in
    let state = host_at_start code store row.key (record { 0 = number }) in (
      state,
      ap (λ (b : Bool). given (Some (if b then None else Some state))) (ap (λ (n : ℕ). bit_at bad n == 1) same ∙ obeys),
    )
obeys_before code store bad number (row ∷ rows) (suc place) at within is obeys =
    obeys_before code store bad (number + 1) rows place at (omega arith) (omega arith) obeys

-- ---- the law

module _ (laws : AreSplitLaws) (program : Program) (placed : PlacedProgram) (bad : ℕ) (store : List (List ℤ))
    (events : List Event) (world : WorldShape)
    (set : IsSet program placed)
    (code_numbers : CodeHasNumbers (split_code placed)) (store_numbers : RowsHaveNumbers store)
    (reach : IsReached (split_code placed) placed.hosts.hosts bad store events world)
    (said : All EventHasNumbers events) where
  where_root_obeys : (state : HostState) →
      state_at (world_at_start (split_code placed) placed.hosts.hosts bad store)
      (split_code placed).root ≡ Some state →
      WorldFollowsAltered program (exposure_of placed bad) (split_code placed) placed.hosts.hosts bad store events world
  unfolding typed_split
  where_root_obeys state obeys =
      let typed =
      laws.typed placed set.splittable (laws.typable placed set.allowed) in
      let split =
      typed_split program placed set reach.sound typed.0 typed.1 (λ host at. 0)
      (exposure_of placed bad) in
      follows laws.opening split placed bad store refl set.splittable set.allowed set.held
      code_numbers store_numbers events world state reach said obeys

  pub follows_always : WorldFollowsAltered program (exposure_of placed bad)
      (split_code placed) placed.hosts.hosts bad store events world
  follows_always =
      let code = split_code placed in
      elim (cases_Bool (bit_at bad code.root.0 == 1)) [
        | inl bad_root ↦
            follows_nothing laws program placed bad store set.splittable set.allowed
            (number_same (bit_at bad code.root.0) 1 bad_root) events world reach
        | inr obeys ↦
            let there =
            obeys_before code store bad 0 placed.hosts.hosts code.root.0 code.root.0
            (subst (λ n. code.root.0 < n) (sym (ap length reach.hosts) ∙ length-map placed.hosts.hosts named_host)
            (root_is_host code reach.sound)) (omega arith) obeys in
            where_root_obeys there.0 there.1
      ]
