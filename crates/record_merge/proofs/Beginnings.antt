-- Before the first event a thread runs on the root host alone, and nothing is in flight.
use Rattle.std.proofs.Common.{◌≡◌, ℕ, zero, suc, ◌+◌, ◌⊎◌, inl, inr, true, false, List, [], ◌∷◌, Option, Some, None}
use Rattle.std.proofs.Common.{refl, ap, sym, subst, arith}
use Rattle.std.specs.Prelude.{ℤ, IsSome, IsSomeAnd, slice_get, if◌then◌else◌}
use Rattle.std.proofs.lemmas.Bool.Decides.{eqb_tells}
use Rattle.js_base.specs.declared.ids.HostId.{HostId}
use Rattle.js_base.proofs.Options.{some_or_none}
use Rattle.host_decl.specs.Hosts as declared_hosts
use Rattle.host_code.specs.Code.{CodeShape}
use Rattle.host_core.specs.Host.{HostState}
use Rattle.host_core.specs.Start.{host_at_start, idle_host, root_host}
use Rattle.net_world.specs.Choice.{Runs}
use Rattle.net_world.specs.World.{world_at_start, state_at, given, hosts_before}
use Rattle.net_world.proofs.Obeying.{no_bad, obey_at_start}
use Rattle.net_world.proofs.Present.{same_id}
use Rattle.record_merge.specs.Single.{nothing, runs, IsSingle}

idle_rests : (code : CodeShape) (store : List (List ℤ)) (key : List ℕ) (me : HostId) →
    IsSome (host_at_start code store key me).running → me.0 ≡ code.root.0
idle_rests code store key me running = elim (eqb_tells me.0 code.root.0) [
  | inl same ↦ same.1
  | inr apart ↦
      let at : host_at_start code store key me ≡ idle_host code store key me =
      ap (λ b. if b then root_host code (idle_host code store key me) else idle_host code store key me) apart.0 in
      let no : false ≡ true = subst (λ (h : HostState). IsSome h.running) at running in absurd (cc)
]

abbrev RunsIn : Option HostState → Type 0
RunsIn there = IsSomeAnd there (λ state. IsSome state.running)

root_runs : (code : CodeShape) (store : List (List ℤ)) (n : ℕ) (rows : List declared_hosts.HostShape) (k : ℕ) →
    RunsIn (given (slice_get (hosts_before code store 0 n rows) k)) → n + k ≡ code.root.0
root_runs code store n [] k running = absurd running
root_runs code store n (row ∷ rows) zero running =
    let me : HostId = record { 0 = n } in
    let same = idle_rests code store row.key me (subst RunsIn (no_bad code store n row) running) in
    omega (arith, same)
root_runs code store n (row ∷ rows) (suc k) running =
    let same = root_runs code store (n + 1) rows k running in
    omega (arith, same)

runs_or_not : (there : Option HostState) → RunsIn there ⊎ ¬ RunsIn there
runs_or_not None = inr (λ running. absurd running)
runs_or_not (Some state) = elim (some_or_none state.running) [
  | inl rests ↦ inr (λ running. let no : false ≡ true = subst IsSome rests running in absurd (cc))
  | inr goes ↦ inl (subst IsSome (sym goes.1) refl)
]

pub start_single : (code : CodeShape) (rows : List declared_hosts.HostShape) (store : List (List ℤ)) →
    IsSingle (world_at_start code rows 0 store)
start_single code rows store =
    let world = world_at_start code rows 0 store in
    let others : (other : HostId) → Runs world other → other ≡ code.root =
    λ other running.
    let same = root_runs code store 0 rows other.0 running in
    same_id other code.root (omega (arith, same)) in
    elim (runs_or_not (state_at world code.root)) [
      | inl there ↦ record {
        obey = obey_at_start code rows store;
        active = runs code.root;
        only = (record { there = there; alone = others }, λ from to some. some refl);
      }
      | inr rests ↦ record {
        obey = obey_at_start code rows store;
        active = nothing;
        only = (λ host running. rests (subst (Runs world) (others host running) running), λ from to some. some refl);
      }
    ]
