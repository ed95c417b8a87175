-- Programs: the bodies of all methods are shaded, one after another, behind their entries.
use Rattle.std.proofs.Common.{◌≡◌, ◌∙◌, ℕ, zero, suc, ◌+◌, Bool, false, inl, List, [], ◌∷◌, ◌++◌, map, length, refl, ap}
use Rattle.std.proofs.Common.{sym, subst, arith}
use Rattle.std.specs.Prelude.{Some, slice_get}
use Rattle.std.specs.List.{AllByRecursion}
use Rattle.js_base.specs.declared.ids.HostId.{HostId}
use Rattle.jif_tree.specs.Trees.{MethodTree}
use Rattle.msg_cost.specs.Moves.{PlannedShape, home_of}
use Rattle.split_rules.specs.Placed.{PlacedProgram, planned_from}
use Rattle.split_rules.specs.Allowed.{IsAllowed}
use Rattle.split_rules.specs.Emissions.{Emission, stands, Counts, counts_after}
use Rattle.split_rules.specs.Held.{IsWellHeld}
use Rattle.split_rules.specs.Positions.{body}
use Rattle.split_rules.specs.Splittable.{IsSplittable}
use Rattle.split_rules.specs.Walk.{lane_on, block_emissions, methods_emissions}
use Rattle.split_rules.specs.WalkStart.{front_emissions}
use Rattle.split_rules.proofs.SeenPrograms.{program_tells_well}
use Rattle.split_rules.proofs.ToldWalks.{MethodTellsWell}
use Rattle.split_rules.proofs.WalkedCalls.{nothing_there}
use Rattle.split_rules.proofs.WalkedPrograms.{front_counted}
use Rattle.split_shades.specs.Flows.{AreResultsLabelled, MethodFlows, AllFlow}
use Rattle.split_shades.specs.Shades.{EntryShade, Ahead, calm_ahead}
use Rattle.split_shades.specs.Shading.{Scene, ShadeKnown, nowhere, here, known_at, AreShaded, method_shade}
use Rattle.split_shades.specs.Shading.{method_shades, shades_start}
use Rattle.split_shades.specs.Sites.{IsSilentBlock, ReleasesNothing, scene_of}
use Rattle.split_shades.proofs.FlowingPrograms.{program_flows}
use Rattle.split_shades.proofs.LabelledSites.{MethodSitesLabelled, sites_labelled}
use Rattle.split_shades.proofs.ShadedBlocks.{block_shaded}
use Rattle.split_shades.proofs.ShadedCalls.{AreMethodsNamed, methods_still}
use Rattle.split_shades.proofs.ShadedStates.{counts_in, Leads, leads_still, leads_on}
use Rattle.split_shades.proofs.ShadedStatements.{walked_of}

-- ---- entries of methods

shades_there : (methods : List MethodTree) (first place number : ℕ) (tree : MethodTree) → number ≡ first + place →
    slice_get methods place ≡ Some tree →
    slice_get (method_shades first methods) place ≡ Some (method_shade number tree)
shades_there [] first place number tree is there = absurd (nothing_there place tree there)
shades_there (method ∷ methods) first zero number tree is there =
    let same : method ≡ tree = cc in
    let at : first ≡ number = omega arith in
    ap (λ one. Some (method_shade first one)) same ∙ ap (λ one. Some (method_shade one tree)) at
shades_there (method ∷ methods) first (suc place) number tree is there =
    shades_there methods (suc first) place number tree (omega arith) there

pub start_named : (scene : Scene) → AreMethodsNamed scene (shades_start scene.basis.labelled.program).entries
start_named scene place tree is =
    shades_there scene.basis.labelled.program.methods 0 place place tree (omega arith) is

shades_many : (planned : PlannedShape) (number : ℕ) (methods : List MethodTree) →
    length (method_shades number methods) ≡ length (map (home_of planned) methods)
shades_many planned number [] = refl
shades_many planned number (method ∷ methods) = ap suc (shades_many planned (suc number) methods)

-- ---- methods

-- the entry of a method stands where its body begins
begins : (scene : Scene) (home : HostId) (number : ℕ) (method : MethodTree) (entries : List EntryShade)
    (branches : List Ahead) (emissions : List Emission) →
    slice_get entries (suc number) ≡ Some (method_shade number method) →
    Leads scene (known_at (here home (calm_ahead (body (record { 0 = number })) method.begin)) entries branches)
    emissions nowhere → Leads scene (known_at nowhere entries branches) (stands home (suc number) ∷ emissions) nowhere
begins scene home number method entries branches emissions is leads = record {
  more = leads.more;
  ahead = leads.ahead;
  shaded = (
    known_at (here home (calm_ahead (body (record { 0 = number })) method.begin)) entries branches,
    (method_shade number method, is, inl (refl, refl), refl),
    leads.shaded,
  );
}

methods_shaded : (scene : Scene) → AllFlow scene.basis scene.planned → (number : ℕ) (methods : List MethodTree) →
    ((place : ℕ) (tree : MethodTree) → slice_get methods place ≡ Some tree →
    slice_get scene.basis.labelled.program.methods (number + place) ≡ Some tree) →
    AllByRecursion (MethodTellsWell scene.basis.principals scene.basis.labelled scene.planned) methods →
    AllByRecursion (MethodFlows scene.basis scene.planned) methods →
    AllByRecursion (MethodSitesLabelled scene.sites scene.basis) methods →
    (scene.may_release ≡ false → AllByRecursion (λ method. IsSilentBlock method.body) methods) →
    (entries : List EntryShade) (branches : List Ahead) → AreMethodsNamed scene entries →
    Leads scene (known_at nowhere entries branches)
    (methods_emissions scene.basis.principals scene.basis.labelled scene.planned (counts_in entries branches) number
    methods) nowhere
methods_shaded scene all number [] there well flows sites silent entries branches named =
    leads_still scene nowhere nowhere entries branches [] refl
methods_shaded scene all number (method ∷ methods) there well flows sites silent entries branches named =
    let planned = scene.planned in
    let home = home_of planned method in
    let bodies = block_emissions (walked_of scene method) (record { owner = method.head; pc = method.begin })
    (counts_in entries branches) (lane_on home) method.body in
    let P : ℕ → Type 0 = λ place. slice_get scene.basis.labelled.program.methods place ≡ Some method in
    let none : number + 0 ≡ number = omega arith in
    let own_there = named number method (subst P none (there 0 method refl)) in
    leads_on scene (known_at nowhere entries branches) (stands home (suc number) ∷ bodies)
    (methods_emissions scene.basis.principals scene.basis.labelled planned
    (counts_after (counts_in entries branches) (stands home (suc number) ∷ bodies)) (suc number) methods) nowhere
    nowhere (begins scene home number method entries branches bodies own_there
    (block_shaded scene method all (record { owner = method.head; pc = method.begin }) method.body well.0.body flows.0
    sites.0 (λ none. (silent none).0) (body (record { 0 = number })) (lane_on home) entries branches named
    (method_shade number method, own_there, refl) tt (well.0.home, tt) tt))
    (λ more ahead counted.
    let Q : Counts → Type 0 = λ counts. Leads scene (known_at nowhere (entries ++ more) (branches ++ ahead))
    (methods_emissions scene.basis.principals scene.basis.labelled planned counts (suc number) methods) nowhere in
    subst Q counted (methods_shaded scene all (suc number) methods
    (λ place tree at.
    let R : ℕ → Type 0 = λ one. slice_get scene.basis.labelled.program.methods one ≡ Some tree in
    let next : number + suc place ≡ suc number + place = omega arith in
    subst R next (there (suc place) tree at)) well.1 flows.1 sites.1 (λ none. (silent none).1) (entries ++ more)
    (branches ++ ahead) (methods_still scene entries more named)))

-- ---- programs

pub program_shaded : (placed : PlacedProgram) (may_release : Bool) → IsSplittable placed → IsAllowed placed →
    IsWellHeld placed → AreResultsLabelled placed.labelled.program →
    (may_release ≡ false → ReleasesNothing placed.labelled.program) →
    let planned = planned_from placed in
    let counts = counts_after (record { entries = 0; branches = 0 }) (front_emissions placed.labelled planned) in
    (last : ShadeKnown) × (last.place ≡ nowhere) × AreShaded (scene_of placed may_release)
    (shades_start placed.labelled.program)
    (methods_emissions placed.hosts.principals placed.labelled planned counts 0 placed.labelled.program.methods) last
program_shaded placed may_release splittable allowed held results silent =
    (_, refl, subst P (sym same) leads.shaded)
  where
    planned : PlannedShape
    planned = planned_from placed

    scene : Scene
    scene = scene_of placed may_release

    entries : List EntryShade
    entries = (shades_start placed.labelled.program).entries

    counts : Counts
    counts = counts_after (record { entries = 0; branches = 0 })
        (front_emissions placed.labelled (planned_from placed))

    same : counts ≡ counts_in entries []
    same =
        let main = splittable.numbered.main in
        let counted : ℕ → Counts = λ many. record { entries = suc many; branches = 0 } in
        front_counted placed.labelled planned main.0 main.1
        ∙ ap counted (sym (shades_many planned 0 placed.labelled.program.methods))

    from_zero : (place : ℕ) (tree : MethodTree) → slice_get placed.labelled.program.methods place ≡ Some tree →
        slice_get placed.labelled.program.methods (0 + place) ≡ Some tree
    from_zero place tree is =
        let none : place ≡ 0 + place = omega arith in
        let P : ℕ → Type 0 = λ one. slice_get placed.labelled.program.methods one ≡ Some tree in
        subst P none is

    all : AllFlow (record { principals = placed.hosts.principals; labelled = placed.labelled }) planned
    all = program_flows placed splittable allowed held results

    leads : Leads scene (shades_start placed.labelled.program)
        (methods_emissions placed.hosts.principals placed.labelled planned (counts_in entries []) 0
        placed.labelled.program.methods) nowhere
    leads = methods_shaded scene all 0 placed.labelled.program.methods from_zero
        (program_tells_well placed splittable allowed held) all.methods
        (sites_labelled (record { principals = placed.hosts.principals; labelled = placed.labelled }) splittable.sites)
        silent entries
        [] (start_named scene)

    P : Counts → Type 0
    P one = AreShaded scene (shades_start placed.labelled.program)
        (methods_emissions placed.hosts.principals placed.labelled planned one 0 placed.labelled.program.methods)
        (known_at nowhere (entries ++ leads.more) ([] ++ leads.ahead))
