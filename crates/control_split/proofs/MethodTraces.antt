-- The methods of a program, traced one by one.
use Rattle.std.proofs.Common.{◌≡◌, ◌∙◌, ℕ, suc, ◌+◌, ◌<◌, List, [], ◌∷◌, ◌++◌, map, take, length, get_or, ap, sym}
use Rattle.std.proofs.Common.{All, subst}
use Rattle.std.proofs.lemmas.List.{map-append, take_more, get_or-map, length-map}
use Rattle.principals.specs.ActsFor.{Declared}
use Rattle.jif_tree.specs.declared.program.Method.{Method}
use Rattle.jif_tree.specs.Trees.{MethodTree, method_tree}
use Rattle.need_labels.specs.Labelled.{Labelled}
use Rattle.msg_cost.specs.Moves.{PlannedShape}
use Rattle.split_rules.specs.Placed.{PlacedProgram, planned_from}
use Rattle.split_rules.specs.Emissions.{Emission, Counts, counts_after}
use Rattle.jif_tree.specs.LabelRules.{method_at}
use Rattle.split_rules.specs.Walk.{method_entry, halt_entries, method_emissions, methods_emissions, program_emissions}
use Rattle.control_split.specs.Trace.{TraceShape, traced, no_counts}
use Rattle.control_split.specs.Views.{IsSizedBlock}
use Rattle.control_split.proofs.Traces.{traced_append, traced_counts}

-- one body further
pub bodies_more : (principals : Declared) (labelled : Labelled) (planned : PlannedShape) (before after : TraceShape)
    (number : ℕ) (method : MethodTree) (others : List MethodTree) →
    after ≡ traced before (method_emissions principals labelled planned before.counts number method) →
    traced after (methods_emissions principals labelled planned after.counts (suc number) others)
    ≡ traced before (methods_emissions principals labelled planned before.counts number (method ∷ others))
bodies_more principals labelled planned before after number method others is =
    let first = method_emissions principals labelled planned before.counts number method in
    let rest : Counts → List Emission = λ counts.
    methods_emissions principals labelled planned counts (suc number) others in
    ap (λ (trace : TraceShape). traced trace (rest trace.counts)) is
    ∙ ap (λ (counts : Counts). traced (traced before first) (rest counts)) (traced_counts before first)
    ∙ sym (traced_append before first (rest (counts_after before.counts first)))

-- one entry further
pub entries_more : (planned : PlannedShape) (methods : List Method) (number : ℕ) (method : Method)
    (start before after : TraceShape) → number < length methods → method ≡ get_or methods number method →
    before ≡ traced start (map (method_entry planned) (map method_tree (take number methods))) →
    after ≡ traced before (method_entry planned (method_tree method) ∷ []) →
    after ≡ traced start (map (method_entry planned) (map method_tree (take (number + 1) methods)))
entries_more planned methods number method start before after within is was one =
    let entries : List Method → List Emission = λ some. map (method_entry planned) (map method_tree some) in
    let front = take number methods in
    one
    ∙ ap (λ (trace : TraceShape). traced trace (entries (method ∷ []))) was
    ∙ sym (traced_append start (entries front) (entries (method ∷ [])))
    ∙ ap (traced start)
    (sym (map-append (method_entry planned) (map method_tree front) (map method_tree (method ∷ [])))
    ∙ ap (map (method_entry planned)) (sym (map-append method_tree front (method ∷ []))))
    ∙ ap (λ (some : List Method). traced start (entries some))
    (ap (λ (last : Method). front ++ last ∷ []) is ∙ sym (take_more methods number method within))

-- the entries that are there from the start, and then the bodies
pub program_traced : (placed : PlacedProgram) (start halted named whole : TraceShape) → start.counts ≡ no_counts →
    let planned = planned_from placed in
    let program = placed.labelled.program in
    halted ≡ traced start (halt_entries planned (method_at program program.main)) →
    named ≡ traced halted (map (method_entry planned) program.methods) →
    whole ≡ traced named (methods_emissions placed.hosts.principals placed.labelled planned named.counts 0
    program.methods) →
    whole ≡ traced start (program_emissions placed)
program_traced placed start halted named whole none halted_is named_is whole_is =
    let planned = planned_from placed in
    let program = placed.labelled.program in
    let halt = halt_entries planned (method_at program program.main) in
    let entries = map (method_entry planned) program.methods in
    let bodies : Counts → List Emission = λ counts.
    methods_emissions placed.hosts.principals placed.labelled planned counts 0 program.methods in
    let there : named ≡ traced start (halt ++ entries) =
    named_is ∙ ap (λ (trace : TraceShape). traced trace entries) halted_is ∙ sym (traced_append start halt entries) in
    let counts : named.counts ≡ counts_after no_counts (halt ++ entries) =
    ap (λ (trace : TraceShape). trace.counts) there ∙ traced_counts start (halt ++ entries)
    ∙ ap (λ (counts : Counts). counts_after counts (halt ++ entries)) none in
    whole_is ∙ ap (λ (counts : Counts). traced named (bodies counts)) counts
    ∙ ap (λ (trace : TraceShape). traced trace (bodies (counts_after no_counts (halt ++ entries)))) there
    ∙ sym (traced_append start (halt ++ entries) (bodies (counts_after no_counts (halt ++ entries))))

-- the body of a method is sized where all are
pub sized_at : (methods : List Method) (number : ℕ) (method : Method) → number < length methods →
    method ≡ get_or methods number method → All (λ one. IsSizedBlock one.body) (map method_tree methods) →
    IsSizedBlock (method_tree method).body
sized_at methods number method within is all =
    let P : MethodTree → Type 0 = λ one. IsSizedBlock one.body in
    let same : get_or (map method_tree methods) number (method_tree method) ≡ method_tree method =
    get_or-map method_tree methods number method (method_tree method) within ∙ ap method_tree (sym is) in
    subst P same (all number (method_tree method) (rw (length-map methods method_tree) within))
