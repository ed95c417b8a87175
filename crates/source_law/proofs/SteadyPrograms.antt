-- A checked program that endorses nothing is steady, whoever misbehaves.
use Rattle.std.proofs.Common.{◌≡◌, ◌∙◌, ap, refl, sym, subst, ℕ, suc, List, [], ◌∷◌, length, map, Some, slice_get}
use Rattle.std.specs.Prelude.{slice_index}
use mathlib.Core.Former.{Count}
use Rattle.std.specs.List.{AllByRecursion, flat_map}
use Rattle.std.proofs.lemmas.List.{length-map}
use Rattle.std.proofs.lemmas.List.Elements.{recursion_from_All}
use Rattle.std.proofs.lemmas.Option.{get_or_from_slice_get}
use Rattle.js_base.specs.declared.ids.StmtId.{StmtId}
use Rattle.principals.specs.ActsFor.{Declared}
use Rattle.label_lattice.specs.declared.label.Label.{Label}
use Rattle.jif_tree.specs.declared.program.Program.{Program}
use Rattle.jif_tree.specs.declared.program.Method.{Method}
use Rattle.jif_tree.specs.declared.program.Stmt.{Stmt}
use Rattle.jif_tree.specs.declared.program.StmtKind as kind
use Rattle.jif_tree.specs.Altered.{Exposure, IsAffected}
use Rattle.jif_tree.specs.Trees.{BlockTree, MethodTree, ProgramTree, block_tree, row_tree, statement_tree, head_of}
use Rattle.jif_tree.specs.Trees.{method_tree, program_tree}
use Rattle.jif_tree.specs.LabelRules.{VariableLabels, StatementLabels, setting_of, Holds, Constraint, Obligation, Meets}
use Rattle.jif_tree.specs.LabelRules.{obligations_of, labels_after, labels_after_methods, block_labels, methods_labels}
use Rattle.jif_tree.specs.LabelRules.{program_labels, declared_labels}
use Rattle.jif_tree.specs.Labelling.{AreLabelled, AreLabelledMethods}
use Rattle.jif_tree.specs.ValueLabels.{AreValuesLabelled, AreAllValuesLabelled}
use Rattle.jif_tree.specs.WellNumbered.{IsBlockIn, AreMethodsIn, is_some}
use Rattle.jif_tree.proofs.LabelsKept.{Stay, stay_same, stay_then, block_stays}
use Rattle.need_labels.specs.Labelled.{Labelled}
use Rattle.need_labels.specs.Needs.{NeedsShape, StatementUse, block_uses, method_uses, statement_uses, IsNeed}
use Rattle.need_labels.proofs.Ordered.{use_numbered}
use Rattle.source_law.specs.Checked.{PassesLabelCheck, exposed_to}
use Rattle.source_law.specs.Steady.{AreIdle, AreSteady, AllIdle, AllSteady, IsSteadyProgram}
use Rattle.source_law.specs.Unendorsed.{IsUnendorsedBlock, EndorsesNothing}
use Rattle.source_law.proofs.ExposedPrograms.{ExposedProgram, OwnMethod, IsNeeded, labelled_in}
use Rattle.source_law.proofs.Lists.{all_first, all_second, each_there, one_there, zipped_there}
use Rattle.source_law.proofs.IdleBlocks.{IsMet, row_idle}
use Rattle.source_law.proofs.SteadyBlocks.{row_steady}

-- ---- what the check asks

constraints_met : (principals : Declared) (statement : StmtId) (constraints : List Constraint) →
    AllByRecursion (Meets principals)
    (map (λ constraint. record { statement = statement; constraint = constraint }) constraints) →
    AllByRecursion (Holds principals) constraints
constraints_met principals statement [] met = tt
constraints_met principals statement (constraint ∷ constraints) met =
    (met.0, constraints_met principals statement constraints met.1)

met_from : (principals : Declared) (statements : List StatementLabels) →
    AllByRecursion (Meets principals) (obligations_of statements) → AllByRecursion (IsMet principals) statements
met_from principals [] met = tt
met_from principals (one ∷ statements) met =
    let own : List Obligation = map (λ constraint. record { statement = one.statement; constraint = constraint })
    one.constraints in (
      constraints_met principals one.statement one.constraints
          (all_first (Meets principals) own (obligations_of statements) met),
      met_from principals statements (all_second (Meets principals) own (obligations_of statements) met),
    )

methods_stay : (principals : Declared) (program : ProgramTree) (labels : VariableLabels) (methods : List MethodTree) →
    Stay labels (labels_after_methods principals program labels methods)
methods_stay principals program labels [] = stay_same labels
methods_stay principals program labels (method ∷ methods) =
    let setting = setting_of principals program method in
    let after = labels_after setting method.begin labels method.body in
    stay_then labels after (labels_after_methods principals program after methods)
    (block_stays setting method.begin labels method.body) (methods_stay principals program after methods)

-- ---- bodies as rows

-- A body is a list, and a nested block a row. What is shown of rows holds of bodies.
abbrev row_from : List Stmt → (n : Count) × kind.Row_of-Stmt n
row_from [] = (_, kind.end_of-Stmt)
row_from (statement ∷ body) =
    (_, kind.more_of-Stmt statement.id statement.line statement.kind (row_from body).1)

same_tree : (body : List Stmt) → row_tree (row_from body).1 ≡ block_tree body
same_tree [] = refl
same_tree (statement ∷ body) = ap (statement_tree statement.kind (head_of statement)) (same_tree body)

steady_body : (program : Program) (exposure : Exposure) (result : _) (body : List Stmt) →
    AreSteady program exposure result (row_from body).1 → AllSteady program exposure result body
steady_body program exposure result [] steady = tt
steady_body program exposure result (statement ∷ body) steady =
    ((steady.0, steady.1), steady_body program exposure result body steady.2)

idle_body : (program : Program) (exposure : Exposure) (result : _) (body : List Stmt) →
    AreIdle program exposure result (row_from body).1 → AllIdle program exposure result body
idle_body program exposure result [] idle = tt
idle_body program exposure result (statement ∷ body) idle =
    (idle.0, idle_body program exposure result body idle.1)

-- ---- methods

abbrev IsSteadyMethod : Program → Exposure → Method → Type 0
IsSteadyMethod program exposure method =
    AllSteady program exposure method.result method.body.items
    × (IsAffected exposure.bad method.begin → AllIdle program exposure method.result method.body.items)

module _ (principals : Declared) (program : Program) (scene : ExposedProgram program) where
  abbrev exposure : Exposure
  exposure = scene.exposure

  abbrev labelled : Labelled
  labelled = labelled_in program scene

  -- of the methods from a place on, and the labels that variables have there
  methods_steady : (place : ℕ) (methods : List Method) (labels : VariableLabels) →
      length labels ≡ length (program_tree program).vars → Stay (declared_labels (program_tree program)) labels →
      labels_after_methods principals (program_tree program) labels (map method_tree methods) ≡ scene.final →
      AreMethodsIn (program_tree program) place (map method_tree methods) →
      AreLabelledMethods principals (program_tree program) labels (map method_tree methods) →
      AreAllValuesLabelled principals (program_tree program) labels (map method_tree methods) →
      AllByRecursion (λ (method : MethodTree). IsUnendorsedBlock method.body) (map method_tree methods) →
      AllByRecursion (IsMet principals)
      (methods_labels principals (program_tree program) labels (map method_tree methods)) →
      AllByRecursion (IsNeeded principals program scene)
      (flat_map (method_uses principals labelled) (map method_tree methods)) →
      AllByRecursion (IsSteadyMethod program exposure) methods
  methods_steady place [] labels many since end there has values pure met uses = tt
  methods_steady place (method ∷ methods) labels many since end there has values pure met uses =
      let tree = method_tree method in
      let setting = setting_of principals (program_tree program) tree in
      let after = labels_after setting method.begin labels tree.body in
      let stays = block_stays setting method.begin labels tree.body in
      let stay = subst (Stay after) end
      (methods_stay principals (program_tree program) after (map method_tree methods)) in
      let row = row_from method.body.items in
      let labels_here = block_labels setting method.begin labels tree.body in
      let uses_here = block_uses labelled setting tree.body in
      let met_here = all_first (IsMet principals) labels_here _ met.1 in
      let needed_here = all_first (IsNeeded principals program scene) uses_here _ uses.1 in
      let own : OwnMethod program = record { tree = tree; id = record { 0 = place }; result = there.0.result } in
      let back = sym (same_tree method.body.items) in
      let A : BlockTree → Type 0 = λ block. Stay (labels_after setting method.begin labels block) scene.final in
      let B : BlockTree → Type 0 = λ block.
      IsBlockIn (program_tree program) (record { 0 = place }) (is_some tree.result) block in
      let C : BlockTree → Type 0 = λ block. AreLabelled setting method.begin labels block in
      let D : BlockTree → Type 0 = λ block. AreValuesLabelled setting method.begin labels block in
      let E : BlockTree → Type 0 = λ block. IsUnendorsedBlock block in
      let F : BlockTree → Type 0 = λ block.
      AllByRecursion (IsMet principals) (block_labels setting method.begin labels block) in
      let G : BlockTree → Type 0 = λ block.
      AllByRecursion (IsNeeded principals program scene) (block_uses labelled setting block) in
      let stays_in = subst A back stay in
      let is_in = subst B back there.0.body in
      let has_labels = subst C back has.0.labelled in
      let met_in = subst F back met_here in (
        (
          steady_body program exposure method.result method.body.items
              (row_steady principals program scene own method.begin labels many since row.1 stays_in is_in has_labels
              (subst D back values.0) (subst E back pure.0) met_in (subst G back needed_here)),
          λ far. idle_body program exposure method.result method.body.items
              (row_idle principals program scene own method.begin labels many row.1 stays_in is_in has_labels met_in
              far),
        ),
        methods_steady (suc place) methods after (stays.many ∙ many)
            (stay_then (declared_labels (program_tree program)) labels after since stays) end there.1 has.1 values.1
            pure.1 (all_second (IsMet principals) labels_here _ met.1)
            (all_second (IsNeeded principals program scene) uses_here _ uses.1),
      )

-- ---- programs

use_needed : (principals : Declared) (labelled : Labelled) (needs : NeedsShape) →
    PassesLabelCheck principals labelled needs →
    (place : ℕ) (one : StatementUse) → slice_get (statement_uses principals labelled) place ≡ Some one →
    IsNeed principals one.backing (slice_index needs.need one.id.0)
use_needed principals labelled needs checked place one there =
    let number : one.id.0 ≡ place = use_numbered principals labelled place one checked.statements there in
    let word = zipped_there (λ it word. IsNeed principals it.backing word) (statement_uses principals labelled)
    needs.need
    checked.needs_of.need place one there in
    let need_is : slice_index needs.need place ≡ word.0 = get_or_from_slice_get needs.need place word.0 _ word.1 in
    let P : ℕ → Type 0 = λ at. IsNeed principals one.backing (slice_index needs.need at) in
    let Q : ℕ → Type 0 = λ need. IsNeed principals one.backing need in
    subst P (sym number) (subst Q (sym need_is) word.2)

steady_there : (principals : Declared) (program : Program) (var_labels pcs : List Label) (needs : NeedsShape)
    (bad : List Label) →
    let labelled : Labelled = record { program = program_tree program; var_labels = var_labels; pc = pcs } in
    PassesLabelCheck principals labelled needs → EndorsesNothing (program_tree program) →
    IsSteadyProgram program (exposed_to labelled needs bad)
steady_there principals program var_labels pcs needs bad checked pure =
    let labelled : Labelled = record { program = program_tree program; var_labels = var_labels; pc = pcs } in
    let tree = program_tree program in
    let declared = declared_labels tree in
    let exposure = exposed_to labelled needs bad in
    let final = labels_after_methods principals tree declared tree.methods in
    let stays = methods_stay principals tree declared tree.methods in
    let many : length declared ≡ length tree.vars = length-map tree.vars (λ variable. variable.label) in
    let scene : ExposedProgram program = record {
      exposure = exposure;
      pc = pcs;
      final = final;
      fields = refl;
      variables = checked.var_labels;
      many = ap length checked.var_labels ∙ length-map final _ ∙ stays.many ∙ many;
      results = checked.results;
    } in
    let met = met_from principals (program_labels principals tree)
    (recursion_from_All (Meets principals) (obligations_of (program_labels principals tree)) checked.well_labelled) in
    let all = methods_steady principals program scene 0 program.methods.items declared many (stay_same declared) refl
    checked.numbered.methods checked.methods checked.values pure met
    (each_there (IsNeeded principals program scene) (statement_uses principals labelled)
    (use_needed principals labelled needs checked)) in
    let each = one_there (IsSteadyMethod program exposure) program.methods.items all in
    record {
      steady = λ number method there. (each number method there).0;
      idle = λ number method there. (each number method there).1;
    }

pub program_steady : (principals : Declared) (program : Program) (labelled : Labelled) (needs : NeedsShape)
    (bad : List Label) → program_tree program ≡ labelled.program → PassesLabelCheck principals labelled needs →
    EndorsesNothing labelled.program → IsSteadyProgram program (exposed_to labelled needs bad)
program_steady principals program labelled needs bad same checked pure =
    let P : ProgramTree → Type 0 = λ tree.
    PassesLabelCheck principals (record { program = tree; var_labels = labelled.var_labels; pc = labelled.pc }) needs in
    let R : ProgramTree → Type 0 = λ tree.
    IsSteadyProgram program (exposed_to (record { program = tree; var_labels = labelled.var_labels; pc = labelled.pc })
    needs bad) in
    subst R same (steady_there principals program labelled.var_labels labelled.pc needs bad (subst P (sym same) checked)
    (subst EndorsesNothing (sym same) pure))
