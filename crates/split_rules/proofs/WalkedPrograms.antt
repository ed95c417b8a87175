-- The walk over a program obeys the flow, from the entries of its methods on to where nothing is left to stand or to
-- land.
use Rattle.std.proofs.Common.{◌≡◌, ◌∙◌, ℕ, suc, zero, ◌+◌, ◌<◌, ◌≤◌, List, [], ◌∷◌, ◌++◌, map, length, refl, ap, sym}
use Rattle.std.proofs.Common.{subst, arith, false}
use Rattle.std.proofs.lemmas.List.{length-map}
use Rattle.std.proofs.lemmas.Option.{slice_get-map}
use Rattle.std.specs.Prelude.{Option, Some, slice_get}
use Rattle.std.specs.List.{AllByRecursion}
use Rattle.std.specs.Option.{option_map}
use Rattle.js_base.specs.declared.ids.HostId.{HostId}
use Rattle.js_base.specs.declared.limits.TheConstants.{PARAMETERS}
use Rattle.principals.specs.ActsFor.{Declared}
use Rattle.jif_tree.specs.LabelRules.{method_at}
use Rattle.jif_tree.specs.Trees.{MethodTree, ProgramTree}
use Rattle.jif_tree.specs.WellNumbered.{AreMethodsIn, HasMethod, IsMethodIn, is_some}
use Rattle.need_labels.specs.Labelled.{Labelled}
use Rattle.msg_cost.specs.Moves.{PlannedShape, home_of}
use Rattle.split_rules.specs.Placed.{PlacedProgram, planned_from}
use Rattle.split_rules.specs.Emissions.{stands, Counts, counts_after}
use Rattle.split_rules.specs.Flow.{Scope, stopped, State, counts_of, FlowGoes}
use Rattle.split_rules.specs.Splittable.{IsSplittable}
use Rattle.split_rules.specs.Walk.{lane_on, walked_in, method_entry, methods_emissions, halt_entries}
use Rattle.split_rules.specs.Walk.{block_emissions}
use Rattle.split_rules.specs.WalkStart.{scope_of, front_emissions, method_entries, walk_start, IsEnd}
use Rattle.split_rules.proofs.CodeItems.{statement_known}
use Rattle.split_rules.proofs.NumberedLists.{at_all}
use Rattle.split_rules.proofs.WalkedStates.{state_of, Reaches, reaches_flow, reaches_on, reaches_step}
use Rattle.split_rules.proofs.WalkedExpressions.{IsScopeOf}
use Rattle.split_rules.proofs.WalkedMoves.{counts_at}
use Rattle.split_rules.proofs.WalkedCalls.{IsWalkable, AreNamed, nothing_there, named_more}
use Rattle.split_rules.proofs.WalkedBlocks.{AreSitesOf, block_goes}
use Rattle.split_rules.proofs.WalkedSites.{sites_there}

-- ---- what a splittable program has

pub scope_there : (placed : PlacedProgram) → IsSplittable placed →
    IsScopeOf (scope_of placed.labelled placed.hosts placed.plan) placed.labelled.program (planned_from placed)
scope_there placed splittable = record {
  fields = refl;
  variables = refl;
  hosts = refl;
  statements = statement_known (length placed.hosts.hosts) placed.plan splittable.stands some;
}
  where
    some : 0 < length placed.hosts.hosts
    some = rw length-map at splittable.are_hosts.names.some

pub method_there : (program : ProgramTree) (methods : List MethodTree) (first : ℕ) →
    AreMethodsIn program first methods →
    (place number : ℕ) (tree : MethodTree) → number ≡ first + place → slice_get methods place ≡ Some tree →
    IsMethodIn program (record { 0 = number }) tree
method_there program [] first are place number tree is there = absurd (nothing_there place tree there)
method_there program (method ∷ methods) first are zero number tree is there =
    let same : method ≡ tree = cc in
    let here : first ≡ number = omega arith in
    let P : ℕ → Type 0 = λ one. IsMethodIn program (record { 0 = one }) tree in
    let Q : MethodTree → Type 0 = λ one. IsMethodIn program (record { 0 = first }) one in
    subst P here (subst Q same are.0)
method_there program (method ∷ methods) first are (suc place) number tree is there =
    method_there program methods (suc first) are.1 place number tree (omega arith) there

walkable_there : (placed : PlacedProgram) → IsSplittable placed →
    IsWalkable (scope_of placed.labelled placed.hosts placed.plan) placed.labelled.program (planned_from placed)
walkable_there placed splittable = record {
  scoped = scope_there placed splittable;
  methods = λ place tree is. method_there placed.labelled.program placed.labelled.program.methods 0
      splittable.numbered.methods place
      place tree (omega arith) is;
  few = λ place tree is. at_all (λ (method : MethodTree). length method.params ≤ PARAMETERS)
      placed.labelled.program.methods place tree splittable.within.params is;
}

start_named : (labelled : Labelled) (planned : PlannedShape) →
    AreNamed labelled.program planned (walk_start labelled planned).named
start_named labelled planned = record {
  some = omega arith;
  methods = λ place tree is. slice_get-map (home_of planned) labelled.program.methods place
      ∙ ap (option_map (home_of planned)) is;
}

-- ---- methods

methods_go : (scope : Scope) (principals : Declared) (labelled : Labelled) (planned : PlannedShape) →
    IsWalkable scope labelled.program planned → (number : ℕ) (methods : List MethodTree) →
    AreMethodsIn labelled.program number methods →
    AllByRecursion (λ (method : MethodTree). AreSitesOf scope.sites planned.plan method.body) methods →
    (named : List HostId) (branches : ℕ) → AreNamed labelled.program planned named →
    Reaches scope (state_of stopped named branches (method_entries planned number methods) [])
    (methods_emissions principals labelled planned (counts_at named branches) number methods) stopped [] []
methods_go scope principals labelled planned walkable number [] there sites named branches are =
    reaches_flow scope stopped stopped named branches [] [] [] refl
methods_go scope principals labelled planned walkable number (method ∷ methods) there sites named branches are =
    let home = home_of planned method in
    let walked = walked_in principals labelled planned method in
    let start = state_of stopped named branches (method_entries planned number (method ∷ methods)) [] in
    let left = method_entries planned (suc number) methods in
    let body = block_emissions walked (record { owner = method.head; pc = method.begin }) (counts_at named branches)
    (lane_on home) method.body in
    reaches_on scope start (stands home (suc number) ∷ body) _ stopped stopped left [] [] []
    (reaches_step scope start (stands home (suc number)) body stopped left [] (refl, tt) refl
    (block_goes scope walked (record { 0 = number }) (is_some method.result)
    (record { walkable = walkable; result = there.0.result; gives_it = refl }) method.body there.0.body sites.0
    (record { owner = method.head; pc = method.begin }) (lane_on home)
    (record { host = walkable.scoped.statements method.head; back = tt; riding = tt }) named branches left [] are))
    (λ more many is.
    let P : Counts → Type 0 = λ counts. Reaches scope (state_of stopped (named ++ more) many left [])
    (methods_emissions principals labelled planned counts (suc number) methods) stopped [] [] in
    subst P is (methods_go scope principals labelled planned walkable (suc number) methods there.1 sites.1
    (named ++ more) many (named_more labelled.program planned named are more)))

-- ---- the front

abbrev pub counts_of_entries : ℕ → Counts
counts_of_entries number = record { entries = number; branches = 0 }

pub entries_counted : (planned : PlannedShape) (methods : List MethodTree) (number : ℕ) →
    counts_after (counts_of_entries number) (map (method_entry planned) methods)
    ≡ counts_of_entries (length (map (home_of planned) methods) + number)
entries_counted planned [] number = ap counts_of_entries (omega arith)
entries_counted planned (method ∷ methods) number =
    entries_counted planned methods (suc number) ∙ ap counts_of_entries (omega arith)

-- what the entries at the front count is what is known where the bodies start
pub front_counted : (labelled : Labelled) (planned : PlannedShape) (main : MethodTree) →
    method_at labelled.program labelled.program.main ≡ Some main →
    counts_after (counts_of_entries 0) (front_emissions labelled planned) ≡ counts_of (walk_start labelled planned)
front_counted labelled planned main is =
    let P : Option MethodTree → Type 0 = λ one. counts_after (counts_of_entries 0)
    (halt_entries planned one ++ map (method_entry planned) labelled.program.methods)
    ≡ counts_of (walk_start labelled planned) in
    subst P (sym is) (entries_counted planned labelled.program.methods 1 ∙ ap counts_of_entries (omega arith))

-- ---- the program

-- The bodies of all methods are walked from the start to an end.
pub program_goes : (placed : PlacedProgram) → IsSplittable placed →
    let planned = planned_from placed in
    let counts = counts_after (record { entries = 0; branches = 0 }) (front_emissions placed.labelled planned) in
    (last : State) × FlowGoes (scope_of placed.labelled placed.hosts placed.plan) (walk_start placed.labelled planned)
    (methods_emissions placed.hosts.principals placed.labelled planned counts 0 placed.labelled.program.methods) last
    × IsEnd last
program_goes placed splittable = (
  state_of stopped (start.named ++ reached.more) reached.branches [] [],
  subst P (sym (front_counted placed.labelled planned main.0 main.1)) reached.goes,
  record { stopped = refl; owed = refl; opened = refl },
)
  where
    planned : PlannedShape
    planned = planned_from placed

    start : State
    start = walk_start placed.labelled (planned_from placed)

    main : HasMethod placed.labelled.program 0 false placed.labelled.program.main
    main = splittable.numbered.main

    reached : Reaches (scope_of placed.labelled placed.hosts placed.plan) start
        (methods_emissions placed.hosts.principals placed.labelled planned
        (counts_of start) 0 placed.labelled.program.methods) stopped [] []
    reached = methods_go (scope_of placed.labelled placed.hosts placed.plan) placed.hosts.principals placed.labelled
        planned
        (walkable_there placed splittable) 0 placed.labelled.program.methods splittable.numbered.methods
        (sites_there placed.labelled.program placed.plan splittable.sites) start.named 0
        (start_named placed.labelled planned)

    P : Counts → Type 0
    P counts = FlowGoes (scope_of placed.labelled placed.hosts placed.plan) start
        (methods_emissions placed.hosts.principals placed.labelled planned counts 0 placed.labelled.program.methods)
        (state_of stopped (start.named ++ reached.more) reached.branches [] [])
