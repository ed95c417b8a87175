-- The laws of hosts that all obey: every event keeps that the world stands for a configuration of the plain run.
use Rattle.std.proofs.Common.{◌≡◌, ℕ, zero, suc, ◌<◌, inl, inr, false, List, [], ◌∷◌, length, Option, Some, None, refl}
use Rattle.std.proofs.Common.{ap, sym, subst, arith}
use Rattle.std.specs.Prelude.{ℤ, ⊤, slice_get}
use Rattle.std.specs.List.{AllByRecursion}
use Rattle.std.proofs.lemmas.Option.{slice_get_within}
use Rattle.std.proofs.lemmas.List.{length-map}
use Rattle.std.proofs.lemmas.Bool.{cases_eq}
use Rattle.js_base.specs.declared.ids.HostId.{HostId}
use Rattle.js_base.specs.declared.ids.MethodId.{MethodId}
use Rattle.js_base.specs.declared.ids.VarId.{VarId}
use Rattle.host_decl.specs.Hosts.{HostsShape}
use Rattle.event_text.specs.declared.event.Event.{Event}
use Rattle.host_code.specs.Sound.{IsSoundCode}
use Rattle.host_core.specs.Host.{HostState}
use Rattle.jif_tree.specs.Altered.{Exposure}
use Rattle.jif_tree.specs.declared.program.Program.{Program}
use Rattle.jif_tree.specs.SourceRun.{IsAtEnd, prefix, configuration_at_start}
use Rattle.jif_tree.specs.SourceRun as run
use Rattle.jif_tree.specs.Trees.{MethodTree, ProgramTree}
use Rattle.jif_tree.specs.WellNumbered.{is_some, HasOptionalVariable, AreMethodsIn, IsMethodIn}
use Rattle.net_world.specs.Choice.{NoneRuns, NothingFlies, IsNextEvent}
use Rattle.net_world.specs.Fits.{ShapeFits, HasOwnToken}
use Rattle.net_world.proofs.Shapes.{shape_at_start, shape_step}
use Rattle.event_text.specs.declared.event.Event.TheVariants.{Take, Turn, Act}
use Rattle.jif_tree.specs.SourceRun.{Configuration}
use Rattle.typed_steps.specs.Views.{Split, AreRising}
use Rattle.typed_steps.proofs.KnownReaders.{body_fit, nobody_reads}
use Rattle.typed_steps.proofs.SeenResults.{results_seen}
use Rattle.simulation.specs.Obeying.{IsSet, CountedSteps, FollowsPlainRun, GoesOnPlainly, StandsPlainly}
use Rattle.simulation.proofs.Possible.{next_happens, one_event}
use Rattle.simulation.proofs.Simulates.{Simulates}
use Rattle.simulation.proofs.Starts.{falls_at_start}
use Rattle.simulation.proofs.Events.{halted_at_end, idle_halted}
use Rattle.simulation.proofs.Plainly.{GivesPlain, prefix_kept, fields_are}
use Rattle.net_world.proofs.GoingOn.{IsKept, along, at_last}
use Rattle.net_world.specs.World.{IsStep, named_host, WorldShape, IsRun, world_at_start, state_at, has_halted}
use Rattle.split_rules.specs.Placed.{PlacedProgram, planned_from}
use Rattle.split_rules.specs.Allowed.{IsAllowed}
use Rattle.split_rules.specs.Pace.{Allowance}
use Rattle.split_rules.specs.SplitCode.{split_code}
use Rattle.split_rules.specs.Splittable.{IsSplittable}
use Rattle.split_rules.specs.Typable.{IsTypable}
use Rattle.split_rules.specs.TypedCode.{Table, IsTypedCode}

-- ---- parameters and results

pub none_given : (result : Option VarId) → is_some result ≡ false → result ≡ None
none_given None is = refl
none_given (Some x) is = absurd (cc)

all_above : (x : VarId) (others : List VarId) →
    ((place : ℕ) (y : VarId) → slice_get others place ≡ Some y → x.0 < y.0) → AllByRecursion (λ y. x.0 < y.0) others
all_above x [] above = tt
all_above x (first ∷ others) above = (above 0 first refl, all_above x others (λ place. above (suc place)))

pub rising_params : (params : List VarId) → ((first second : ℕ) (x y : VarId) → slice_get params first ≡ Some x →
    slice_get params second ≡ Some y → first < second → x.0 < y.0) → AreRising params
rising_params [] rise = tt
rising_params (x ∷ others) rise = (
  all_above x others (λ place y is. rise 0 (suc place) x y refl is (omega arith)),
  rising_params others (λ first second y z is also before.
      rise (suc first) (suc second) y z is also (omega (arith, before))),
)

-- a result is one of the program's variables
variable_within : (program : ProgramTree) (method : MethodId) (result : Option VarId) (x : VarId) →
    HasOptionalVariable program method result → result ≡ Some x → x.0 < length program.vars
variable_within program method None x has is = absurd (cc)
variable_within program method (Some y) x has is =
    let same : y ≡ x = cc in
    subst (λ (v : VarId). v.0 < length program.vars) same (slice_get_within program.vars y.0 has.0 has.1)

method_numbered : (program : ProgramTree) (first : ℕ) (methods : List MethodTree) (place : ℕ) (method : MethodTree) →
    AreMethodsIn program first methods → slice_get methods place ≡ Some method →
    (number : MethodId) × IsMethodIn program number method
method_numbered program first [] place method are is = absurd (cc)
method_numbered program first (own ∷ methods) zero method are is =
    let same : own ≡ method = cc in
    (record { 0 = first }, subst (IsMethodIn program (record { 0 = first })) same are.0)
method_numbered program first (own ∷ methods) (suc place) method are is =
    method_numbered program (suc first) methods place method are.1 is

pub result_within : (program : ProgramTree) (place : ℕ) (method : MethodTree) (x : VarId) →
    AreMethodsIn program 0 program.methods → slice_get program.methods place ≡ Some method →
    method.result ≡ Some x → x.0 < length program.vars
result_within program place method x are is result =
    let numbered = method_numbered program 0 program.methods place method are is in
    variable_within program numbered.0 method.result x numbered.1.result result

-- ---- a split program

-- where nobody misbehaves
abbrev pub unaffected : Exposure
unaffected = record { bad = []; fields = []; variables = []; needs = [] }

-- a typed code of a program that is set, and what may be affected there
unfoldable pub typed_split : (program : Program) (placed : PlacedProgram) → IsSet program placed →
    IsSoundCode (split_code placed) →
    (table : Table) → IsTypedCode (planned_from placed) (split_code placed) table
    → Allowance → Exposure → Split
typed_split program placed set sound table typed pace exposure = record {
  program = program;
  exposure = exposure;
  planned = planned_from placed;
  code = split_code placed;
  table = table;
  typed = typed;
  sound = sound;
  granted = set.granted;
  is = set.is;
  main_tree = set.splittable.numbered.main.0;
  has_main = set.splittable.numbered.main.1;
  main_gives = none_given set.splittable.numbered.main.0.result set.splittable.numbered.main.3;
  main_entry = refl;
  bodies = λ place method is.
      body_fit placed.hosts.principals placed.labelled (split_code placed) (planned_from placed)
      refl set.needs_of set.splittable.numbered.methods place method is
      (results_seen placed set.splittable set.allowed set.held place method is);
  given_back = set.given_back;
  rising = λ place method is.
      rising_params method.params (λ first second x y. set.in_order place first second method x y is);
  unread = λ place method x host is result.
      nobody_reads placed.hosts.principals placed.labelled (planned_from placed) set.needs_of set.unread place method
      x is result (result_within placed.labelled.program place method x set.splittable.numbered.methods is result) host;
  many = length-map placed.hosts.hosts named_host;
  pace = pace;
}

-- ---- along events

-- the world stands for the plain run after so many steps, and the run was not at its end before
record Stands (split : Split) (store : List (List ℤ)) (world : WorldShape) (n : ℕ) : Type 0 where
  simulates : Simulates split (prefix split.program store n) world
  not_before : (m : ℕ) → m < n → ¬ IsAtEnd (prefix split.program store m)
  fits : ShapeFits split.code world

-- no host that misbehaves makes an event
pub own_tokens : (split : Split) (c : Configuration) (world after : WorldShape) (event : Event) →
    Simulates split c world →
    IsStep split.code world event after → HasOwnToken world event
own_tokens split c world after (Take from to place) sim step = tt
own_tokens split c world after (Turn host) sim step = tt
own_tokens split c world after (Act from to made) sim step =
    absurd (let none = sim.orderly.none_bad from in let bad = step.bad in cc)

not_at_end : (split : Split) (store : List (List ℤ)) (n : ℕ) →
    ((m : ℕ) → m < n → ¬ IsAtEnd (prefix split.program store m)) → ¬ IsAtEnd (prefix split.program store n) →
    (m : ℕ) → m < suc n → ¬ IsAtEnd (prefix split.program store m)
not_at_end split store n before now m within ends = elim (cases_eq m n) [
  | inl same ↦ now (subst (λ k. IsAtEnd (prefix split.program store k)) same ends)
  | inr other ↦ before m (omega arith) ends
]

-- the configuration is that after so many steps
record StandsAfter (split : Split) (store : List (List ℤ)) (world : WorldShape) (c : Configuration) : Type 0 where
  steps : ℕ
  is : c ≡ prefix split.program store steps
  stands : Stands split store world steps

stands_plainly : (split : Split) (store : List (List ℤ)) (world : WorldShape) (c : Configuration) →
    StandsAfter split store world c → StandsPlainly split.code world c
stands_plainly split store world c it =
    let at = prefix split.program store it.steps in
    let sim = it.stands.simulates in
    subst (StandsPlainly split.code world) (sym it.is)
    (record {
      fields = fields_are split world at.store sim.orderly.unaffected sim.holds.fields;
      halted = λ halts. halted_at_end split at world sim halts;
      idle = λ none nothing. idle_halted split at world sim none nothing;
      none_ignored = λ host state is. sim.orderly.ignored host state is;
    })

kept : GivesPlain → (split : Split) (store : List (List ℤ)) →
    IsKept (StandsPlainly split.code) (GoesOnPlainly split.program) split.code (λ event. ⊤) (StandsAfter split store)
kept plain split store world after c event it fit step =
    let n = it.steps in
    let sim = it.stands.simulates in
    let fits = shape_step split.code world after event split.sound it.stands.fits
    (own_tokens split (prefix split.program store n) world after event sim step) step in
    elim (prefix_kept plain split store n world after event sim it.stands.fits step) [
      | inl same ↦ (
        c,
        inl refl,
        record {
          steps = n;
          is = it.is;
          stands = record { simulates = same.now; not_before = it.stands.not_before; fits = fits };
        },
      )
      | inr next ↦ (
        prefix split.program store (suc n),
        inr (
          subst (λ (k : Configuration). ¬ IsAtEnd k) (sym it.is) next.0,
          ap (run.step split.program) (sym it.is),
        ),
        record {
          steps = suc n;
          is = refl;
          stands = record {
            simulates = next.1.now;
            not_before = not_at_end split store n it.stands.not_before next.0;
            fits = fits;
          };
        },
      )
    ]

module _ (plain : GivesPlain) (split : Split) (store : List (List ℤ)) (hosts : HostsShape)
    (start : Simulates split (prefix split.program store 0) (world_at_start split.code hosts.hosts 0 store))
    (fits : ShapeFits split.code (world_at_start split.code hosts.hosts 0 store))
    (events : List Event) (world : WorldShape)
    (ran : IsRun split.code (world_at_start split.code hosts.hosts 0 store) events world) where
  at_start : StandsAfter split store (world_at_start split.code hosts.hosts 0 store)
      (configuration_at_start split.program store)
  at_start = record {
    steps = 0;
    is = refl;
    stands = record { simulates = start; not_before = λ m within ends. omega arith; fits = fits };
  }

  at_end : (c : Configuration) × StandsAfter split store world c
  at_end =
      at_last (StandsPlainly split.code) (GoesOnPlainly split.program) split.code (λ event. ⊤) (StandsAfter split store)
      (kept plain split store) events (world_at_start split.code hosts.hosts 0 store) world
      (configuration_at_start split.program store) at_start (λ k d less. tt) ran

  pub follows : FollowsPlainRun split.program split.code hosts.hosts store events world
  follows =
      along (StandsPlainly split.code) (GoesOnPlainly split.program) split.code (λ event. ⊤) (StandsAfter split store)
      (stands_plainly split store) (kept plain split store) events
      (world_at_start split.code hosts.hosts 0 store) world (configuration_at_start split.program store) at_start
      (λ k d less. tt) ran

  pub counted : CountedSteps split.program split.code store world
  counted =
      let stands = at_end.1.stands in
      record {
        steps = at_end.1.steps;
        fields = fields_are split world _ stands.simulates.orderly.unaffected stands.simulates.holds.fields;
        halted = λ halts. record {
          ends = halted_at_end split _ world stands.simulates halts;
          not_before = stands.not_before;
        };
      }

  pub idle : NoneRuns world → NothingFlies world → has_halted split.code.root world
  idle none nothing = idle_halted split _ world at_end.1.stands.simulates none nothing

  pub next_possible : (event : Event) → IsNextEvent world (Some event) →
      (after : WorldShape) × IsStep split.code world event after
  next_possible event next = next_happens split _ world at_end.1.stands.simulates at_end.1.stands.fits event next

  pub one_possible : (first second : Event) (after other : WorldShape) → IsStep split.code world first after →
      IsStep split.code world second other → first ≡ second
  one_possible first second after other step also =
      one_event split _ world after other at_end.1.stands.simulates first second step also

  pub none_ignored : (host : HostId) (state : HostState) → state_at world host ≡ Some state → state.ignored ≡ 0
  none_ignored host state is = at_end.1.stands.simulates.orderly.ignored host state is

-- ---- the laws

-- the code of a program that can be split is sound
abbrev pub GivesSound : Type 0
GivesSound = (placed : PlacedProgram) → IsSplittable placed → IsSoundCode (split_code placed)

-- where a plan is allowed, hosts are trusted for what statements start
abbrev pub GivesTrust : Type 0
GivesTrust = (placed : PlacedProgram) →
    IsAllowed placed → IsTypable (planned_from placed)

-- and then the code is typed
abbrev pub GivesTables : Type 0
GivesTables = (placed : PlacedProgram) →
    let planned = planned_from placed in
    IsSplittable placed → IsTypable planned →
    (table : Table) × IsTypedCode planned (split_code placed) table

-- the laws of the splitting, and that of altered runs
pub record SplitLaws : Type 0 where
  pub sound : GivesSound
  pub trust : GivesTrust
  pub tables : GivesTables
  pub plain : GivesPlain

pub laws_of : GivesSound → GivesTrust → GivesTables → GivesPlain → SplitLaws
laws_of sound trust tables plain = record { sound = sound; trust = trust; tables = tables; plain = plain }

module _ (laws : SplitLaws) (program : Program) (placed : PlacedProgram) (store : List (List ℤ)) (events : List Event)
    (world : WorldShape)
    (set : IsSet program placed)
    (ran : IsRun (split_code placed)
    (world_at_start (split_code placed) placed.hosts.hosts 0 store) events world) where
  split : Split
  split =
      let typable = laws.trust placed set.allowed in
      let typed = laws.tables placed set.splittable typable in
      typed_split program placed set (laws.sound placed set.splittable) typed.0
      typed.1 (λ host place. 0) unaffected

  start : Simulates split (prefix program store 0)
      (world_at_start (split_code placed) placed.hosts.hosts 0 store)
  unfolding split typed_split
  start = (falls_at_start split store placed.hosts.hosts refl refl).now

  fits_there : ShapeFits (split_code placed)
      (world_at_start (split_code placed) placed.hosts.hosts 0 store)
  fits_there =
      shape_at_start (split_code placed) placed.hosts.hosts 0 store
      (laws.sound placed set.splittable) refl

  pub fields_follow : FollowsPlainRun program (split_code placed) placed.hosts.hosts store events world
  unfolding split typed_split
  fields_follow = follows laws.plain split store placed.hosts start fits_there events world ran

  pub steps_counted : CountedSteps program (split_code placed) store world
  unfolding split typed_split
  steps_counted = counted laws.plain split store placed.hosts start fits_there events world ran

  pub idle_ends : NoneRuns world → NothingFlies world → has_halted (split_code placed).root world
  unfolding split typed_split
  idle_ends = idle laws.plain split store placed.hosts start fits_there events world ran

  pub nothing_ignored : (host : HostId) (state : HostState) → state_at world host ≡ Some state → state.ignored ≡ 0
  unfolding split typed_split
  nothing_ignored = none_ignored laws.plain split store placed.hosts start fits_there events world ran

  pub next_there : (event : Event) → IsNextEvent world (Some event) →
      (after : WorldShape) × IsStep (split_code placed) world event after
  unfolding split typed_split
  next_there = next_possible laws.plain split store placed.hosts start fits_there events world ran

  pub one_there : (first second : Event) (after other : WorldShape) →
      IsStep (split_code placed) world first after →
      IsStep (split_code placed) world second other → first ≡ second
  unfolding split typed_split
  one_there = one_possible laws.plain split store placed.hosts start fits_there events world ran
