-- The bodies of all methods are typed, from where the entries of the methods are known to where nothing goes on.
use Rattle.std.proofs.Common.{◌≡◌, ◌∙◌, ℕ, zero, suc, ◌+◌, true, inl, List, [], ◌∷◌, ◌++◌, map, length, refl, ap, sym}
use Rattle.std.proofs.Common.{arith, subst}
use Rattle.std.specs.Prelude.{Some, slice_get}
use Rattle.std.specs.List.{AllByRecursion}
use Rattle.js_base.specs.declared.ids.HostId.{HostId}
use Rattle.principals.specs.ActsFor.{Declared}
use Rattle.jif_tree.specs.Trees.{MethodTree, ProgramTree}
use Rattle.jif_tree.specs.LabelRules.{method_at, result_of}
use Rattle.jif_tree.specs.WellNumbered.{AreMethodsIn, IsWellNumbered, is_some}
use Rattle.need_labels.specs.Labelled.{Labelled}
use Rattle.msg_cost.specs.Moves.{PlannedShape, home_of}
use Rattle.split_rules.specs.Placed.{PlacedProgram, planned_from}
use Rattle.split_rules.specs.Emissions.{Emission, stands, Counts, counts_after}
use Rattle.split_rules.specs.SplitCode.{entries_in}
use Rattle.split_rules.specs.Walk.{method_entry, lane_on, walked_in, block_emissions, methods_emissions, need_of}
use Rattle.split_rules.specs.Positions.{statements_of, all_due, body, Position, calm, Entrance}
use Rattle.split_rules.specs.Typable.{IsTypableMethod, IsTypable}
use Rattle.split_rules.specs.Typing.{EntryIs, nowhere, here, WalkKnown, AreTyped}
use Rattle.split_rules.specs.WalkStart.{front_emissions, method_entrances, known_start}
use Rattle.split_rules.specs.TypedCode.{AreMethodEntries}
use Rattle.split_rules.proofs.WalkedCalls.{nothing_there}
use Rattle.split_rules.proofs.WalkedPrograms.{front_counted}
use Rattle.split_rules.proofs.TypedStates.{known_at, counts_in, Leads, leads_still, leads_on}
use Rattle.split_rules.proofs.TypedCalls.{methods_still}
use Rattle.split_rules.proofs.TypedPlaces.{AreCalm}
use Rattle.split_rules.proofs.TypedBlocks.{AreHostsThere, nothing_out, block_typed}
use Rattle.split_rules.proofs.AllowedTyping.{body_of_method}

-- ---- entries of methods

entrances_there : (planned : PlannedShape) (methods : List MethodTree) (first place number : ℕ) (tree : MethodTree) →
    number ≡ first + place →
    slice_get methods place ≡ Some tree →
    EntryIs (method_entrances planned first methods) place (calm (body (record { 0 = number })) (all_due tree.body))
    (need_of planned (tree.head ∷ []))
entrances_there planned [] first place number tree is there = absurd (nothing_there place tree there)
entrances_there planned (method ∷ methods) first zero number tree is there =
    let same : method ≡ tree = cc in
    let here : first ≡ number = omega arith in
    let P : ℕ → Type 0 = λ one. EntryIs (method_entrances planned first (method ∷ methods)) 0
    (calm (body (record { 0 = one })) (all_due tree.body)) (need_of planned (tree.head ∷ [])) in
    let Q : MethodTree → Type 0 = λ one. EntryIs (method_entrances planned first (method ∷ methods)) 0
    (calm (body (record { 0 = first })) (all_due one.body)) (need_of planned (one.head ∷ [])) in
    subst P here (subst Q same refl)
entrances_there planned (method ∷ methods) first (suc place) number tree is there =
    entrances_there planned methods (suc first) place number tree (omega arith) there

pub start_methods : (planned : PlannedShape) → AreMethodEntries planned (known_start planned).entries
start_methods planned place tree is =
    entrances_there planned planned.program.methods 0 place place tree (omega arith) is

methods_calm : (planned : PlannedShape) (number : ℕ) (methods : List MethodTree) →
    AreCalm (method_entrances planned number methods)
methods_calm planned number [] = tt
methods_calm planned number (method ∷ methods) = (refl, methods_calm planned (suc number) methods)

pub start_calm : (planned : PlannedShape) → AreCalm (known_start planned).entries
start_calm planned = (refl, methods_calm planned 0 planned.program.methods)

pub start_many : (planned : PlannedShape) (number : ℕ) (methods : List MethodTree) →
    length (method_entrances planned number methods) ≡ length (entries_in (map (method_entry planned) methods))
start_many planned number [] = refl
start_many planned number (method ∷ methods) = ap suc (start_many planned (suc number) methods)

-- ---- methods

method_number : (program : ProgramTree) (method : MethodTree) (number : ℕ) →
    slice_get program.methods number ≡ Some method → result_of (method_at program (record { 0 = number }))
    ≡ method.result
method_number program method number is = rw is refl

methods_typed : (principals : Declared) (labelled : Labelled) (planned : PlannedShape) →
    labelled.program ≡ planned.program → AreHostsThere planned → (number : ℕ) (methods : List MethodTree) →
    ((place : ℕ) (tree : MethodTree) → slice_get methods place ≡ Some tree →
    slice_get planned.program.methods (number + place) ≡ Some tree) →
    AreMethodsIn planned.program number methods →
    AllByRecursion (IsTypableMethod planned) methods →
    (entries : List Entrance) (branches : List Position) → AreMethodEntries planned entries →
    Leads planned (known_at nowhere entries branches)
    (methods_emissions principals labelled planned (counts_in entries branches) number methods) nowhere
methods_typed principals labelled planned same hosts number [] there numbered typable entries branches known =
    leads_still planned nowhere nowhere entries branches [] refl
methods_typed principals labelled planned same hosts number (method ∷ methods) there numbered typable entries branches
    known =
    let home = home_of planned method in
    let walked = walked_in principals labelled planned method in
    let begin = calm (body (record { 0 = number })) (all_due method.body) in
    let bodies = block_emissions walked (record { owner = method.head; pc = method.begin }) (counts_in entries branches)
    (lane_on home) method.body in
    let P : ℕ → Type 0 = λ place. slice_get planned.program.methods place ≡ Some method in
    let none : number + 0 ≡ number = omega arith in
    let own = subst P none (there 0 method refl) in
    leads_on planned (known_at nowhere entries branches) (stands home (suc number) ∷ bodies)
    (methods_emissions principals labelled planned
    (counts_after (counts_in entries branches) (stands home (suc number) ∷ bodies)) (suc number) methods) nowhere
    nowhere
    (begins planned home (suc number) begin (need_of planned (method.head ∷ [])) entries branches bodies
    (known number method own)
    (block_typed walked (record { 0 = number }) (is_some method.result)
    (record { same = same; result = method_number planned.program method number own; gives_it = refl; hosts = hosts })
    true method.body
    numbered.0.body typable.0.returns typable.0.trusted
    (body_of_method planned.program (record { 0 = number }) method own) (record {
      owner = method.head;
      pc =
          method.begin;
    })
    (body (record { 0 = number })) (λ yes. refl) (lane_on home) [] entries branches known tt typable.0.home
    (nothing_out planned home (statements_of method.body))))
    (λ more ahead is.
    let Q : Counts → Type 0 = λ counts. Leads planned (known_at nowhere (entries ++ more) (branches ++ ahead))
    (methods_emissions principals labelled planned counts (suc number) methods) nowhere in
    subst Q is (methods_typed principals labelled planned same hosts (suc number) methods
    (λ place tree at. let R : ℕ → Type 0 = λ one. slice_get planned.program.methods one ≡ Some tree in
    let next : number + suc place ≡ suc number + place = omega arith in
    subst R next (there (suc place) tree at)) numbered.1 typable.1 (entries ++ more)
    (branches ++ ahead) (methods_still planned entries more known)))
  where
    begins : (planned : PlannedShape) (home : HostId) (number : ℕ) (position : Position) (need : ℕ)
        (entries : List Entrance) (branches : List Position) (emissions : List Emission) →
        EntryIs entries number position need →
        Leads planned (known_at (here home position) entries branches) emissions nowhere →
        Leads planned (known_at nowhere entries branches) (stands home number ∷ emissions) nowhere
    begins planned home number position need entries branches emissions is leads = record {
      more = leads.more;
      ahead = leads.ahead;
      typed = (
        known_at (here home position) entries branches,
        (position, need, is, inl refl, refl),
        leads.typed,
      );
    }

-- ---- programs

entrances_many : (planned : PlannedShape) (number : ℕ) (methods : List MethodTree) →
    length (method_entrances planned number methods) ≡ length (map (home_of planned) methods)
entrances_many planned number [] = refl
entrances_many planned number (method ∷ methods) = ap suc (entrances_many planned (suc number) methods)

-- All bodies are typed, and nothing goes on behind them.
pub program_typed : (placed : PlacedProgram) →
    let planned = planned_from placed in
    let counts = counts_after (record { entries = 0; branches = 0 }) (front_emissions placed.labelled planned) in
    IsWellNumbered placed.labelled.program → AreHostsThere planned → IsTypable planned →
    (last : WalkKnown) × (last.place ≡ nowhere) × AreTyped planned (known_start planned)
    (methods_emissions placed.hosts.principals placed.labelled planned counts 0 placed.labelled.program.methods) last
program_typed placed numbered hosts typable = (_, refl, subst P (sym same) leads.typed)
  where
    planned : PlannedShape
    planned = planned_from placed

    entries : List Entrance
    entries = (known_start (planned_from placed)).entries

    counts : Counts
    counts = counts_after (record { entries = 0; branches = 0 })
        (front_emissions placed.labelled (planned_from placed))

    same : counts ≡ counts_in entries []
    same =
        let main = numbered.main in
        let counted : ℕ → Counts = λ many. record { entries = suc many; branches = 0 } in
        front_counted placed.labelled planned main.0 main.1
        ∙ ap counted (sym (entrances_many planned 0 placed.labelled.program.methods))

    from_zero : (place : ℕ) (tree : MethodTree) → slice_get placed.labelled.program.methods place ≡ Some tree →
        slice_get placed.labelled.program.methods (0 + place) ≡ Some tree
    from_zero place tree is =
        let none : place ≡ 0 + place = omega arith in
        let P : ℕ → Type 0 = λ one. slice_get placed.labelled.program.methods one ≡ Some tree in
        subst P none is

    leads : Leads planned (known_start planned)
        (methods_emissions placed.hosts.principals placed.labelled planned (counts_in entries []) 0
        placed.labelled.program.methods) nowhere
    leads = methods_typed placed.hosts.principals placed.labelled planned refl hosts 0 placed.labelled.program.methods
        from_zero
        numbered.methods typable.methods entries [] (start_methods planned)

    P : Counts → Type 0
    P one = AreTyped planned (known_start planned)
        (methods_emissions placed.hosts.principals placed.labelled planned one 0 placed.labelled.program.methods)
        (known_at nowhere (entries ++ leads.more) ([] ++ leads.ahead))
