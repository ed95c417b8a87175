-- Under a program label that may be affected all statements are idle.
use Rattle.std.proofs.Common.{◌≡◌, ◌∙◌, ap, refl, sym, subst, inl, inr, ℕ, Bool, ◌++◌, length, map, Option, Some, None}
use Rattle.std.proofs.Common.{IsSomeAnd, IfSome, slice_get, arith}
use Rattle.std.specs.Prelude.{unwrap_or, ⊤}
use Rattle.std.proofs.Common.{true≢false}
use Rattle.std.specs.Option.{option_map}
use Rattle.std.specs.List.{AllByRecursion, flat_map}
use Rattle.std.proofs.lemmas.Option.{slice_get-map, slice_get_within, slice_get_cases}
use Rattle.js_base.specs.declared.ids.VarId.{VarId}
use Rattle.js_base.specs.declared.ids.MethodId.{MethodId}
use Rattle.principals.specs.ActsFor.{Declared}
use Rattle.label_lattice.specs.declared.label.Label.{Label}
use Rattle.label_lattice.specs.Lattice.{join_of, empty_label}
use Rattle.jif_tree.specs.declared.program.Program.{Program}
use Rattle.jif_tree.specs.declared.program.Method.{Method}
use Rattle.jif_tree.specs.declared.program.StmtKind.{StmtKind}
use Rattle.jif_tree.specs.declared.program.StmtKind as kind
use Rattle.jif_tree.specs.Altered.{Exposure, IsAffected, VariableIsAffected}
use Rattle.jif_tree.specs.SourceRun as source
use Rattle.jif_tree.specs.Trees.{MethodTree, ProgramTree, expr_tree, row_tree, method_tree, program_tree}
use Rattle.jif_tree.specs.LabelRules.{MethodSetting, VariableLabels, StatementLabels, setting_of, variable_label}
use Rattle.jif_tree.specs.LabelRules.{field_label, expr_label, guarded, Holds, expr_constraints, argument_flows}
use Rattle.jif_tree.specs.LabelRules.{result_flows, labels_after, labels_after_assignment, block_labels, method_at}
use Rattle.jif_tree.specs.LabelRules.{begin_label, params_of, result_of, flow_of, return_flows}
use Rattle.jif_tree.specs.Labelling.{IsLabelledIfAny, AreLabelled}
use Rattle.jif_tree.specs.WellNumbered.{HasVariable, HasMethod, is_some}
use Rattle.jif_tree.proofs.LabelsKept.{Stay, stay_then, assignment_stays, block_stays, assigned_labelled}
use Rattle.source_law.specs.Steady.{AreIdle, BeginIsAffected}
use Rattle.source_law.proofs.Lists.{all_first, all_second}
use Rattle.source_law.proofs.AffectedLabels.{affected_up, integ_first, integ_second}
use Rattle.source_law.proofs.ExposedPrograms.{ExposedProgram, OwnMethod, IsBlockOf, variable_affected, field_affected}

-- ---- what is found

-- what the label check asks of a statement holds
abbrev pub IsMet : Declared → StatementLabels → Type 0
IsMet principals one = AllByRecursion (Holds principals) one.constraints

-- a variable of the program is in the list of labels
pub variable_found : (program : ProgramTree) (method : MethodId) (x : VarId) (labels : VariableLabels) →
    length labels ≡ length program.vars → HasVariable program method x →
    (found : Option Label) × (slice_get labels x.0 ≡ Some found)
variable_found program method x labels many there =
    let within = slice_get_within program.vars x.0 there.0 there.1 in
    elim ((slice_get_cases labels x.0).1) [
      | inl it ↦ (it.0, it.2)
      | inr past ↦ absurd (omega (arith, many, within, past.0))
    ]

-- ---- methods

-- a native method and its tree
pub native_method : (program : Program) (number : ℕ) (tree : MethodTree) →
    slice_get (program_tree program).methods number ≡ Some tree →
    (method : Method) × (source.method_at program number ≡ Some method) × (method_tree method ≡ tree)
native_method program number tree there = by (slice_get program.methods.items number) refl
  where
    by : (found : Option Method) → slice_get program.methods.items number ≡ found →
        (method : Method) × (source.method_at program number ≡ Some method) × (method_tree method ≡ tree)
    by None none =
        let never : None ≡ Some tree =
        sym (slice_get-map method_tree program.methods.items number ∙ ap (option_map method_tree) none) ∙ there in
        absurd (cc)
    by (Some method) is =
        let same : Some (method_tree method) ≡ Some tree =
        sym (slice_get-map method_tree program.methods.items number ∙ ap (option_map method_tree) is) ∙ there in
        (method, is, ap (λ (found : Option MethodTree). unwrap_or found tree) same)

pub begin_affected : (program : Program) (exposure : Exposure) (method : MethodId) (params : ℕ) (gives : Bool) →
    HasMethod (program_tree program) params gives method →
    IsAffected exposure.bad (begin_label (method_at (program_tree program) method)) →
    BeginIsAffected program exposure method
begin_affected program exposure method params gives has far =
    let own = native_method program method.0 has.0 has.1 in
    let P : Label → Type 0 = λ label. IsAffected exposure.bad label in
    let begin : begin_label (method_at (program_tree program) method) ≡ own.0.begin =
    ap (λ (found : Option MethodTree). unwrap_or (option_map (λ tree. tree.begin) found) empty_label) has.1
    ∙ sym (ap (λ (t : MethodTree). t.begin) own.2) in
    let Q : Option Method → Type 0 = λ found. IsSomeAnd found (λ there. IsAffected exposure.bad there.begin) in
    subst Q (sym own.1) (subst P begin far)

-- ---- blocks

-- a result is kept only where there is one
abbrev pub KeepsOne : Option VarId → Option VarId → Type 0
KeepsOne None (Some into) = ⊥
KeepsOne result into = ⊤

pub keeps_one : (result into : Option VarId) → is_some result ≡ is_some into → KeepsOne result into
keeps_one None None same = tt
keeps_one (Some x) None same = tt
keeps_one (Some x) (Some y) same = tt
keeps_one None (Some y) same = absurd (true≢false (sym same))

pub called_keeps : (program : ProgramTree) (method : MethodId) (params : ℕ) (into : Option VarId) →
    HasMethod program params (is_some into) method → KeepsOne (result_of (method_at program method)) into
called_keeps program method params into has =
    let same : result_of (method_at program method) ≡ has.0.result =
    ap (λ (found : Option MethodTree). unwrap_or (option_map (λ tree. tree.result) found) None) has.1 in
    let P : Option VarId → Type 0 = λ result. KeepsOne result into in
    subst P (sym same) (keeps_one has.0.result into has.3)

module _ (principals : Declared) (program : Program) (scene : ExposedProgram program) (own : OwnMethod program) where
  abbrev exposure : Exposure
  exposure = scene.exposure

  abbrev setting : MethodSetting
  setting = setting_of principals (program_tree program) own.tree

  -- what a flow under the program label reaches
  flow_affected : (pc from to : Label) → Holds principals (flow_of pc from to) → IsAffected exposure.bad pc →
      IsAffected exposure.bad to
  flow_affected pc from to holds far =
      affected_up exposure.bad (join_of from pc) to holds.1
      (affected_up exposure.bad pc (join_of from pc) (integ_second from pc) far)

  into_affected : (pc : Label) (labels : VariableLabels) → Stay labels scene.final → (result into : Option VarId) →
      KeepsOne result into → IsLabelledIfAny labels into → AllByRecursion (Holds principals)
      (result_flows pc labels result into) → IsAffected exposure.bad pc → IfSome into (VariableIsAffected exposure)
  into_affected pc labels stay result None is_kept has holds far = tt
  into_affected pc labels stay None (Some x) is_kept has holds far = absurd is_kept
  into_affected pc labels stay (Some result) (Some x) is_kept has holds far =
      variable_affected program scene labels stay x has
      (flow_affected pc (variable_label labels result) (variable_label labels x) holds.0 far)

  pub row_idle : (pc : Label) (labels : VariableLabels) → length labels ≡ length (program_tree program).vars →
      {n : _} → (row : kind.Row_of-Stmt n) → Stay (labels_after setting pc labels (row_tree row)) scene.final →
      IsBlockOf program own (row_tree row) → AreLabelled setting pc labels (row_tree row) →
      AllByRecursion (IsMet principals) (block_labels setting pc labels (row_tree row)) →
      IsAffected exposure.bad pc → AreIdle program exposure own.tree.result row
  row_idle pc labels many kind.end_of-Stmt stay there has met far = tt
  row_idle pc labels many (kind.more_of-Stmt id line (kind.Let x value) rest) stay there has met far =
      let from = expr_label setting pc labels (expr_tree value) in
      let after = labels_after_assignment labels x (join_of from pc) in
      let later = stay_then after (labels_after setting pc after (row_tree rest)) scene.final
      (block_stays setting pc after (row_tree rest)) stay in
      let found = variable_found (program_tree program) own.id x labels many there.0 in
      let own = assigned_labelled labels x (join_of from pc) found.0 found.1 in
      let flows = (all_second (Holds principals) (expr_constraints setting pc labels (expr_tree value)) _ met.0).0 in (
        variable_affected program scene after later x own
            (flow_affected pc from (variable_label after x) flows far),
        row_idle pc after ((assignment_stays labels x (join_of from pc)).many ∙ many) rest stay there.2 has met.1 far,
      )
  row_idle pc labels many (kind.more_of-Stmt id line (kind.SetField field value) rest) stay there has met far =
      let flows = (all_second (Holds principals) (expr_constraints setting pc labels (expr_tree value)) _ met.0).0 in (
        field_affected program scene _ field there.0
            (flow_affected pc _ (field_label (program_tree program) field) flows far),
        row_idle pc labels many rest stay there.2 has met.1 far,
      )
  row_idle pc labels many (kind.more_of-Stmt id line (kind.SetElement field index value) rest) stay there has met far =
      let one = expr_constraints setting pc labels (expr_tree index) in
      let two = expr_constraints setting pc labels (expr_tree value) in
      let flows = (all_second (Holds principals) (one ++ two) _ met.0).0 in (
        field_affected program scene _ field there.0
            (flow_affected pc _ (field_label (program_tree program) field) flows far),
        row_idle pc labels many rest stay there.3 has met.1 far,
      )
  row_idle pc labels many (kind.more_of-Stmt id line (kind.If' guard m first k second) rest) stay there has met far =
      let inside = guarded setting pc labels (expr_tree guard) in
      let between = labels_after setting inside labels (row_tree first) in
      let behind = labels_after setting inside between (row_tree second) in
      let first_stays = block_stays setting inside labels (row_tree first) in
      let second_stays = block_stays setting inside between (row_tree second) in
      let rest_stays = stay_then behind (labels_after setting pc behind (row_tree rest)) scene.final
      (block_stays setting pc behind (row_tree rest)) stay in
      let from_first = stay_then between behind scene.final second_stays rest_stays in
      let labels_one = block_labels setting inside labels (row_tree first) in
      let labels_two = block_labels setting inside between (row_tree second) in
      let both = all_first (IsMet principals) (labels_one ++ labels_two) _ met.1 in
      let up = affected_up exposure.bad pc inside
      (integ_first pc (expr_label setting pc labels (expr_tree guard))) far in (
        (
          row_idle inside labels many first from_first there.1 has.0
              (all_first (IsMet principals) labels_one labels_two both) up,
          row_idle inside between (first_stays.many ∙ many) second rest_stays there.2 has.1
              (all_second (IsMet principals) labels_one labels_two both) up,
        ),
        row_idle pc behind (second_stays.many ∙ first_stays.many ∙ many) rest stay there.3 has.2
            (all_second (IsMet principals) (labels_one ++ labels_two) _ met.1) far,
      )
  row_idle pc labels many (kind.more_of-Stmt id line (kind.While' guard m body) rest) stay there has met far =
      let inside = guarded setting pc labels (expr_tree guard) in
      let behind = labels_after setting inside labels (row_tree body) in
      let body_stays = block_stays setting inside labels (row_tree body) in
      let rest_stays = stay_then behind (labels_after setting pc behind (row_tree rest)) scene.final
      (block_stays setting pc behind (row_tree rest)) stay in
      let labels_one = block_labels setting inside labels (row_tree body) in
      let up = affected_up exposure.bad pc inside
      (integ_first pc (expr_label setting pc labels (expr_tree guard))) far in (
        row_idle inside labels many body rest_stays there.1 has.0
            (all_first (IsMet principals) labels_one _ met.1) up,
        row_idle pc behind (body_stays.many ∙ many) rest stay there.2 has.1
            (all_second (IsMet principals) labels_one _ met.1) far,
      )
  row_idle pc labels many (kind.more_of-Stmt id line (kind.Call site called args into) rest) stay there has met far =
      let exprs = map expr_tree args.items in
      let found = method_at (program_tree program) called in
      let stays = stay_then labels (labels_after setting pc labels (row_tree rest)) scene.final
      (block_stays setting pc labels (row_tree rest)) stay in
      let asked = all_second (Holds principals) (flat_map (expr_constraints setting pc labels) exprs) _ met.0 in
      let kept = all_second (Holds principals) (argument_flows setting pc labels exprs (params_of found)) _ asked.1 in (
        (
          begin_affected program exposure called _ _ there.0
              (affected_up exposure.bad pc (begin_label found) asked.0.1 far),
          into_affected pc labels stays (result_of found) into (called_keeps (program_tree program) called _ into
              there.0)
              has.1 kept far,
        ),
        row_idle pc labels many rest stay there.3 has.2 met.1 far,
      )
  row_idle pc labels many (kind.more_of-Stmt id line (kind.Return value) rest) stay there has met far =
      let stays = stay_then labels (labels_after setting pc labels (row_tree rest)) scene.final
      (block_stays setting pc labels (row_tree rest)) stay in
      let holds = all_second (Holds principals) (expr_constraints setting pc labels (expr_tree value)) _ met.0 in (
        by own.tree.result refl has.0 stays holds,
        row_idle pc labels many rest stay there.2 has.1 met.1 far,
      )
    where
      by : (result : Option VarId) → own.tree.result ≡ result → IsLabelledIfAny labels own.tree.result →
          Stay labels scene.final → AllByRecursion (Holds principals)
          (return_flows pc labels own.tree.result (expr_label setting pc labels (expr_tree value))) →
          IfSome own.tree.result (VariableIsAffected exposure)
      by None none own stays holds = rw none tt
      by (Some x) is own stays holds =
          let P : Option VarId → Type 0 = λ it. IsLabelledIfAny labels it in
          let Q : Option VarId → Type 0 = λ it. AllByRecursion (Holds principals)
          (return_flows pc labels it (expr_label setting pc labels (expr_tree value))) in
          rw is (variable_affected program scene labels stays x (subst P is own)
          (flow_affected pc _ (variable_label labels x) (subst Q is holds).0 far))
