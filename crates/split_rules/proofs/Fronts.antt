-- The entries that are there before the bodies of the methods, and where all entries of a program stand.
use Rattle.std.proofs.Common.{◌≡◌, ◌∙◌, ℕ, zero, suc, ◌+◌, ◌<◌, ◌≤◌, ◌⊎◌, inl, inr, List, [], ◌∷◌, ◌++◌, map}
use Rattle.std.proofs.Common.{length, Some, slice_get, refl, ap, sym, subst, arith, append_assoc, append-nil}
use Rattle.std.proofs.lemmas.List.{length-append, length-map}
use Rattle.js_base.specs.declared.ids.HostId.{HostId}
use Rattle.host_decl.specs.Hosts.{HostShape, HostsShape}
use Rattle.jif_tree.specs.Trees.{MethodTree}
use Rattle.jif_tree.specs.LabelRules.{method_at}
use Rattle.need_labels.specs.Labelled.{Labelled}
use Rattle.msg_cost.specs.Moves.{PlannedShape, home_of, called_home}
use Rattle.split_rules.specs.Placed.{PlacedProgram, planned_from}
use Rattle.split_rules.specs.Emissions.{Emission, instruction, entry, stands, lands, NamedEntry}
use Rattle.split_rules.specs.Walk.{method_entry, halt_entries, need_of}
use Rattle.split_rules.specs.SplitCode.{emitted_on, entries_in}
use Rattle.split_rules.specs.Flow.{Scope, State, stopped, after, FlowGoes}
use Rattle.split_rules.specs.Splittable.{StandsAmong, IsSplittable}
use Rattle.split_rules.specs.WalkStart.{scope_of, front_emissions, walk_start, method_entries, IsEnd}
use Rattle.split_rules.proofs.Places.{entries_append, found_entry}
use Rattle.split_rules.proofs.Pendings.{Numbered, of_entries, of_branches, before, passes_mark, IsAbsent}
use Rattle.split_rules.proofs.Pendings.{AreBelow, AreDistinct, IsAmong, AreOrdered, halves, named_branched}
use Rattle.split_rules.proofs.Standing.{Placed, placed, placed_later, placed_from, some_there}
use Rattle.split_rules.proofs.CodeItems.{statement_known}

-- ---- the start

-- what is given first, where `main` is known
abbrev pub front_of : PlannedShape → MethodTree → List MethodTree → List Emission
front_of planned main methods =
    method_entry planned main ∷ stands (home_of planned main) 0 ∷ map (method_entry planned) methods

abbrev pub start_of : PlannedShape → MethodTree → List MethodTree → State
start_of planned main methods = record {
  flow = stopped;
  named = home_of planned main ∷ map (home_of planned) methods;
  branches = 0;
  owed = method_entries planned 0 methods;
  opened = [];
}

numbers_below : (planned : PlannedShape) (number bound : ℕ) (methods : List MethodTree) →
    number + length methods < bound → AreBelow bound (method_entries planned number methods)
numbers_below planned number bound [] small = tt
numbers_below planned number bound (method ∷ methods) small =
    (omega arith, numbers_below planned (suc number) bound methods (omega arith))

number_absent : (planned : PlannedShape) (number place : ℕ) (methods : List MethodTree) → place ≤ number →
    IsAbsent place (method_entries planned number methods)
number_absent planned number place [] less = tt
number_absent planned number place (method ∷ methods) less =
    ((λ same. omega (arith, same)), number_absent planned (suc number) place methods (omega arith))

numbers_distinct : (planned : PlannedShape) (number : ℕ) (methods : List MethodTree) →
    AreDistinct (method_entries planned number methods)
numbers_distinct planned number [] = tt
numbers_distinct planned number (method ∷ methods) = (
  number_absent planned (suc number) (suc number) methods (omega arith),
  numbers_distinct planned (suc number) methods,
)

method_among : (planned : PlannedShape) (number : ℕ) (methods : List MethodTree) (place : ℕ) (method : MethodTree) →
    slice_get methods place ≡ Some method →
    IsAmong (home_of planned method) (suc (number + place)) (method_entries planned number methods)
method_among planned number [] place method there = absurd (cc)
method_among planned number (first ∷ methods) zero method there =
    let same : first ≡ method = cc in
    let sum : number ≡ number + 0 = omega arith in
    inl (ap (λ one. record { host = home_of planned one; number = suc number }) same
    ∙ ap (λ at. record { host = home_of planned method; number = suc at }) sum)
method_among planned number (first ∷ methods) (suc place) method there =
    let sum : suc number + place ≡ number + suc place = omega arith in
    inr (subst (λ (at : ℕ). IsAmong (home_of planned method) (suc at) (method_entries planned (suc number) methods)) sum
    (method_among planned (suc number) methods place method there))

pub ordered_start : (kind : Numbered) (planned : PlannedShape) (main : MethodTree) (methods : List MethodTree) →
    AreOrdered kind (start_of planned main methods)
ordered_start of_entries planned main methods = record {
  below = numbers_below planned 0 (length (home_of planned main ∷ map (home_of planned) methods)) methods
      (omega (arith, length-map methods (home_of planned)));
  distinct = numbers_distinct planned 0 methods;
}
ordered_start of_branches planned main methods = record { below = tt; distinct = tt }

-- ---- what is before the bodies

pub front_emitted : (host : HostId) (planned : PlannedShape) (main : MethodTree) (methods : List MethodTree) →
    emitted_on host (front_of planned main methods) ≡ []
front_emitted host planned main [] = refl
front_emitted host planned main (method ∷ methods) = front_emitted host planned main methods

pub front_hosts : (planned : PlannedShape) (methods : List MethodTree) →
    map (λ named. named.host) (entries_in (map (method_entry planned) methods)) ≡ map (home_of planned) methods
front_hosts planned [] = refl
front_hosts planned (method ∷ methods) = ap (◌∷◌ (home_of planned method)) (front_hosts planned methods)

method_there : (planned : PlannedShape) (methods : List MethodTree) (place : ℕ) (named : NamedEntry) →
    slice_get (entries_in (map (method_entry planned) methods)) place ≡ Some named →
    (method : MethodTree) × (slice_get methods place ≡ Some method) × (named.host ≡ home_of planned method)
method_there planned [] place named there = absurd (cc)
method_there planned (method ∷ methods) zero named there =
    let first : NamedEntry = record {
      host = home_of planned method;
      label = method.begin;
      need = need_of planned (method.head ∷ []);
    } in
    let same : first ≡ named = cc in
    (method, refl, ap {A = NamedEntry} (λ one. one.host) (sym same))
method_there planned (method ∷ methods) (suc place) named there = method_there planned methods place named there

methods_long : (planned : PlannedShape) (methods : List MethodTree) →
    length (entries_in (map (method_entry planned) methods)) ≡ length methods
methods_long planned [] = refl
methods_long planned (method ∷ methods) = ap suc (methods_long planned methods)

placed_behind_methods : (kind : Numbered) (planned : PlannedShape) (host : HostId) (number : ℕ)
    (methods : List MethodTree) (emissions : List Emission) → Placed kind host number emissions →
    Placed kind host number (map (method_entry planned) methods ++ emissions)
placed_behind_methods kind planned host number [] emissions so = so
placed_behind_methods of_entries planned host number (method ∷ methods) emissions so =
    placed_later of_entries host number (method_entry planned method) (map (method_entry planned) methods ++ emissions)
    (λ others. refl) (placed_behind_methods of_entries planned host number methods emissions so)
placed_behind_methods of_branches planned host number (method ∷ methods) emissions so =
    placed_later of_branches host number (method_entry planned method) (map (method_entry planned) methods ++ emissions)
    (λ others. refl) (placed_behind_methods of_branches planned host number methods emissions so)

pub landing_behind_front : (planned : PlannedShape) (host : HostId) (number : ℕ) (main : MethodTree)
    (methods : List MethodTree) (emissions : List Emission) → Placed of_branches host number emissions →
    Placed of_branches host number (front_of planned main methods ++ emissions)
landing_behind_front planned host number main methods emissions so =
    let rest = map (method_entry planned) methods ++ emissions in
    let home = home_of planned main in
    placed_later of_branches host number (method_entry planned main) (stands home 0 ∷ rest) (λ others. refl)
    (placed_later of_branches host number (stands home 0) rest (λ others. refl)
    (placed_behind_methods of_branches planned host number methods emissions so))

entry_behind_front : (planned : PlannedShape) (host : HostId) (number : ℕ) (main : MethodTree)
    (methods : List MethodTree) (emissions : List Emission) →
    Placed of_entries host (suc number) (map (method_entry planned) methods ++ emissions) →
    Placed of_entries host (suc number) (front_of planned main methods ++ emissions)
entry_behind_front planned host number main methods emissions so =
    let rest = map (method_entry planned) methods ++ emissions in
    let home = home_of planned main in
    placed_later of_entries host (suc number) (method_entry planned main) (stands home 0 ∷ rest) (λ others. refl)
    (placed_later of_entries host (suc number) (stands home 0) rest
    (passes_mark of_entries home 0 (suc number) (λ same. omega (arith, same))) so)

-- ---- the walk

pub record IsWalk (labelled : Labelled) (hosts : HostsShape) (planned : PlannedShape) (main : MethodTree)
    (emissions : List Emission) (last : State) : Type 0 where
  pub main_is : method_at labelled.program labelled.program.main ≡ Some main
  pub among : StandsAmong (length hosts.hosts) planned.plan
  pub some : 0 < length hosts.hosts
  pub goes : FlowGoes (scope_of labelled hosts planned.plan) (start_of planned main labelled.program.methods) emissions
      last
  pub end : IsEnd last

pub front_is : (labelled : Labelled) (planned : PlannedShape) (main : MethodTree) →
    method_at labelled.program labelled.program.main ≡ Some main →
    front_emissions labelled planned ≡ front_of planned main labelled.program.methods
front_is labelled planned main main_is =
    ap (λ found. halt_entries planned found ++ map (method_entry planned) labelled.program.methods) main_is

-- what goes from the start of a walk to an end
pub walk_there : (placed : PlacedProgram) (emissions : List Emission) (last : State) →
    (splittable : IsSplittable placed) →
    let planned = planned_from placed in
    FlowGoes (scope_of placed.labelled placed.hosts placed.plan) (walk_start placed.labelled planned) emissions last →
    IsEnd last → IsWalk placed.labelled placed.hosts planned splittable.numbered.main.0 emissions last
walk_there placed emissions last splittable goes end =
    let labelled = placed.labelled in
    let hosts = placed.hosts in
    let planned = planned_from placed in
    let methods = labelled.program.methods in
    let main = splittable.numbered.main.0 in
    let main_is : method_at labelled.program labelled.program.main ≡ Some main = splittable.numbered.main.1 in
    let start : walk_start labelled planned ≡ start_of planned main methods =
    ap (λ home. record (start_of planned main methods) { named = home ∷ map (home_of planned) methods })
    (ap (called_home planned) main_is) in
    let name_of : HostShape → List ℕ = λ host. host.name in
    let as_many = length-map hosts.hosts name_of in
    let some = splittable.are_hosts.names.some in
    record {
      main_is = main_is;
      among = splittable.stands;
      some = omega arith;
      goes = subst (λ (first : State). FlowGoes (scope_of labelled hosts planned.plan) first emissions last) start goes;
      end = end;
    }

pub names_after : (scope : Scope) (state : State) (emissions : List Emission) (last : State) →
    FlowGoes scope state emissions last → last.named ≡ state.named ++ map (λ named. named.host) (entries_in emissions)
names_after scope state [] last goes = sym (append-nil state.named ∙ ap (λ one. one.named) goes)
names_after scope state (instruction one ∷ others) last goes =
    names_after scope (after state (instruction one)) others last goes.1
    ∙ ap (λ named. named ++ map (λ one. one.host) (entries_in others)) (named_branched state one.host one.op)
names_after scope state (entry named ∷ others) last goes =
    names_after scope (after state (entry named)) others last goes.1
    ∙ append_assoc state.named (named.host ∷ []) (map (λ one. one.host) (entries_in others))
names_after scope state (stands host number ∷ others) last goes =
    names_after scope (after state (stands host number)) others last goes.1
names_after scope state (lands host number ∷ others) last goes =
    names_after scope (after state (lands host number)) others last goes.1

pub get_append : {X : Type 0} (xs ys : List X) (place : ℕ) (x : X) → slice_get (xs ++ ys) place ≡ Some x →
    (slice_get xs place ≡ Some x) ⊎ ((more : ℕ) × (place ≡ length xs + more) × (slice_get ys more ≡ Some x))
get_append [] ys place x there = inr (place, omega arith, there)
get_append (first ∷ xs) ys zero x there = inl there
get_append (first ∷ xs) ys (suc place) x there = elim (get_append xs ys place x there) [
  | inl before ↦ inl before
  | inr behind ↦ inr (behind.0, omega (arith, behind.1), behind.2)
]

-- an entry is on a host of the program, and stands where an instruction of the host follows
pub record Standing (hosts : HostsShape) (emissions : List Emission) (number : ℕ) (named : NamedEntry) : Type 0 where
  pub host : named.host.0 < length hosts.hosts
  pub placed : Placed of_entries named.host number emissions

of_method : (labelled : Labelled) (hosts : HostsShape) (planned : PlannedShape) (main : MethodTree)
    (emissions : List Emission) (last : State) → IsWalk labelled hosts planned main emissions last →
    (place : ℕ) (method : MethodTree) → slice_get labelled.program.methods place ≡ Some method →
    Placed of_entries (home_of planned method) (suc place) emissions
of_method labelled hosts planned main emissions last walk place method there =
    let methods = labelled.program.methods in
    let sum : 0 + place ≡ place = omega arith in
    placed of_entries (home_of planned method) (suc place) (scope_of labelled hosts planned.plan)
    (start_of planned main methods) emissions last walk.goes (ordered_start of_entries planned main methods)
    walk.end.owed walk.end.stopped
    (subst (λ (at : ℕ). IsAmong (home_of planned method) (suc at) (method_entries planned 0 methods)) sum
    (method_among planned 0 methods place method there))

of_later : (labelled : Labelled) (hosts : HostsShape) (planned : PlannedShape) (main : MethodTree)
    (emissions : List Emission) (last : State) → IsWalk labelled hosts planned main emissions last →
    (more : ℕ) (named : NamedEntry) → slice_get (entries_in emissions) more ≡ Some named →
    (named.host.0 < length hosts.hosts)
    × Placed of_entries named.host (suc (length labelled.program.methods + more)) emissions
of_later labelled hosts planned main emissions last walk more named there =
    let methods = labelled.program.methods in
    let scope = scope_of labelled hosts planned.plan in
    let start = start_of planned main methods in
    let number = suc (length methods + more) in
    let so = found_entry emissions more named there in
    let split = halves scope start so.before (entry named ∷ so.behind) last
    (subst (λ (list : List Emission). FlowGoes scope start list last) so.is walk.goes) in
    let long_named = length-map methods (home_of planned) in
    let place = so.place in
    let length_is = λ (middle : State) (to : FlowGoes scope start so.before middle).
    let names = ap length (names_after scope start so.before middle to)
    ∙ length-append start.named (map (λ one. one.host) (entries_in so.before)) in
    let long = length-map (entries_in so.before) (λ (one : NamedEntry). one.host) in
    let is : length middle.named ≡ number = omega arith in
    is in (
      split.from.0,
      placed_from of_entries named.host number scope start so.before (entry named) so.behind last emissions so.is
          walk.goes (ordered_start of_entries planned main methods) walk.end.owed walk.end.stopped
          (λ middle to fits. (
            (let same = length_is middle to in omega arith),
            inl (ap (λ at. record { host = named.host; number = at }) (length_is middle to)),
          ))
          (λ others. refl),
    )

-- every entry but the one that ends the program stands in the bodies
pub others_stand : (labelled : Labelled) (hosts : HostsShape) (planned : PlannedShape) (main : MethodTree)
    (emissions : List Emission) (last : State) → IsWalk labelled hosts planned main emissions last →
    (number : ℕ) (named : NamedEntry) →
    slice_get (entries_in (front_of planned main labelled.program.methods ++ emissions)) (suc number) ≡ Some named →
    (named.host.0 < length hosts.hosts) × Placed of_entries named.host (suc number) emissions
others_stand labelled hosts planned main emissions last walk number named there =
    let methods = labelled.program.methods in
    let fronts = entries_in (map (method_entry planned) methods) in
    let either = get_append fronts (entries_in emissions) number named
    (ap (λ list. slice_get list number) (sym (entries_append (map (method_entry planned) methods) emissions))
    ∙ there) in
    elim either [
      | inl before ↦
          let found = method_there planned methods number named before in
          let P : HostId → Type 0 = λ host. (host.0 < length hosts.hosts)
          × Placed of_entries host (suc number) emissions in
          subst P (sym found.2) (
            statement_known (length hosts.hosts) planned.plan walk.among walk.some found.0.head,
            of_method labelled hosts planned main emissions last walk number found.0 found.1,
          )
      | inr behind ↦
          let so = of_later labelled hosts planned main emissions last walk behind.0 named behind.2 in
          let long = methods_long planned methods in
          let sum : length methods + behind.0 ≡ number = let is = behind.1 in omega arith in
          let P : ℕ → Type 0 = λ at. Placed of_entries named.host (suc at) emissions in
          (so.0, subst P sum so.1)
    ]

pub all_stand : (labelled : Labelled) (hosts : HostsShape) (planned : PlannedShape) (main : MethodTree)
    (emissions : List Emission) (last : State) → IsWalk labelled hosts planned main emissions last →
    (number : ℕ) (named : NamedEntry) →
    slice_get (entries_in (front_of planned main labelled.program.methods ++ emissions)) number ≡ Some named →
    Standing hosts (front_of planned main labelled.program.methods ++ emissions) number named
all_stand labelled hosts planned main emissions last walk zero named there =
    let methods = labelled.program.methods in
    let home = home_of planned main in
    let rest = map (method_entry planned) methods ++ emissions in
    let first : NamedEntry = record { host = home; label = main.begin; need = need_of planned (main.head ∷ []) } in
    let same : first ≡ named = cc in
    let so = of_method labelled hosts planned main emissions last walk labelled.program.main.0 main walk.main_is in
    let behind = placed_behind_methods of_entries planned home (suc labelled.program.main.0) methods emissions so in
    let P : NamedEntry → Type 0 = λ one. Standing hosts (front_of planned main methods ++ emissions) 0 one in
    subst P same (record {
      host = statement_known (length hosts.hosts) planned.plan walk.among walk.some main.head;
      placed = record {
        behind = rest;
        is = refl;
        more = some_there of_entries home (suc labelled.program.main.0) rest behind;
      };
    })
all_stand labelled hosts planned main emissions last walk (suc number) named there =
    let methods = labelled.program.methods in
    let so = others_stand labelled hosts planned main emissions last walk number named there in
    record {
      host = so.0;
      placed = entry_behind_front planned named.host number main methods emissions
          (placed_behind_methods of_entries planned named.host (suc number) methods emissions so.1);
    }
