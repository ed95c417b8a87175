-- In a checked program that endorses nothing, what is set may be affected, or its value reads nothing that may be.
use Rattle.std.proofs.Common.{◌≡◌, ◌∙◌, ap, refl, inl, inr, ◌⊎◌, ⊎_elim, List, [], ◌∷◌, map, Option, Some, None}
use Rattle.std.proofs.Common.{slice_get}
use Rattle.std.specs.Option.{option_map}
use Rattle.std.specs.List.{AllByRecursion}
use Rattle.std.proofs.lemmas.Option.{slice_get-map}
use Rattle.js_base.specs.declared.ids.VarId.{VarId}
use Rattle.js_base.specs.declared.ids.MethodId.{MethodId}
use Rattle.js_base.proofs.Decisions.{Decided}
use Rattle.principals.specs.ActsFor.{Declared}
use Rattle.label_lattice.specs.declared.label.Label.{Label}
use Rattle.label_lattice.specs.Lattice.{join_of}
use Rattle.jif_tree.specs.declared.program.Program.{Program}
use Rattle.jif_tree.specs.declared.program.Method.{Method}
use Rattle.jif_tree.specs.declared.program.Expr.{Expr}
use Rattle.jif_tree.specs.declared.program.Expr as expr
use Rattle.jif_tree.specs.Altered.{Exposure, IsAffected, FieldIsAffected, VariableIsAffected}
use Rattle.jif_tree.specs.SourceRun as source
use Rattle.jif_tree.specs.Trees.{MethodTree, expr_tree, method_tree, program_tree}
use Rattle.jif_tree.specs.LabelRules.{MethodSetting, VariableLabels, setting_of, variable_label, field_label}
use Rattle.jif_tree.specs.LabelRules.{expr_label, Holds, argument_flows, result_flows, method_at, params_of, result_of}
use Rattle.jif_tree.specs.LabelRules.{flow_of, declared_labels}
use Rattle.jif_tree.specs.Labelling.{IsLabelled, IsLabelledIfAny}
use Rattle.jif_tree.specs.ValueLabels.{IsExprLabelled}
use Rattle.jif_tree.specs.WellNumbered.{IsExprIn}
use Rattle.jif_tree.proofs.LabelsKept.{Stay, labelled_later_if_any}
use Rattle.source_law.specs.Steady.{IsClean, SetsWell, ArePassedWell, IsKeptWell}
use Rattle.source_law.specs.Unendorsed.{IsUnendorsed}
use Rattle.source_law.proofs.AffectedLabels.{affected_up, integ_first, integ_second, integ_crossed, variable_decided}
use Rattle.source_law.proofs.AffectedLabels.{field_decided}
use Rattle.source_law.proofs.ExposedPrograms.{ExposedProgram, OwnMethod, variable_affected, label_affected}
use Rattle.source_law.proofs.ExposedPrograms.{field_label_affected}

-- ---- methods

pub params_same : (program : Program) (method : MethodId) →
    params_of (method_at (program_tree program) method) ≡ source.params_of (source.method_at program method.0)
params_same program method =
    ap params_of (slice_get-map method_tree program.methods.items method.0) ∙ by (slice_get program.methods.items
    method.0)
  where
    by : (found : Option Method) → params_of (option_map method_tree found) ≡ source.params_of found
    by None = refl
    by (Some it) = refl

pub result_same : (program : Program) (method : MethodId) →
    result_of (method_at (program_tree program) method) ≡ source.result_of (source.method_at program method.0)
result_same program method =
    ap result_of (slice_get-map method_tree program.methods.items method.0) ∙ by (slice_get program.methods.items
    method.0)
  where
    by : (found : Option Method) → result_of (option_map method_tree found) ≡ source.result_of found
    by None = refl
    by (Some it) = refl

-- ---- values

module _ (principals : Declared) (program : Program) (scene : ExposedProgram program) (own : OwnMethod program) where
  abbrev exposure : Exposure
  exposure = scene.exposure

  abbrev setting : MethodSetting
  setting = setting_of principals (program_tree program) own.tree

  -- a value is clean, or its label may be affected
  pub clean_or_affected : (pc : Label) (labels : VariableLabels) → Stay labels scene.final → (e : Expr) →
      IsUnendorsed (expr_tree e) → IsExprIn (program_tree program) own.id (expr_tree e) →
      IsExprLabelled labels (expr_tree e) →
      IsClean exposure e ⊎ IsAffected exposure.bad (expr_label setting pc labels (expr_tree e))
  clean_or_affected pc labels stay (expr.Number n) pure there has = inl tt
  clean_or_affected pc labels stay (expr.Local x) pure there has = by (variable_decided exposure x)
    where
      by : Decided (VariableIsAffected exposure x) →
          (¬ VariableIsAffected exposure x) ⊎ IsAffected exposure.bad (variable_label labels x)
      by (inl far) = inr (label_affected program scene labels stay x has far)
      by (inr never) = inl never
  clean_or_affected pc labels stay (expr.Scalar field) pure there has = by (field_decided exposure field)
    where
      by : Decided (FieldIsAffected exposure field) →
          (¬ FieldIsAffected exposure field) ⊎ IsAffected exposure.bad (field_label (program_tree program) field)
      by (inl far) = inr (field_label_affected program scene _ field there far)
      by (inr never) = inl never
  clean_or_affected pc labels stay (expr.Element' field p index) pure there has =
      by (field_decided exposure field) (clean_or_affected pc labels stay index pure there.1 has)
    where
      asked : Label
      asked = expr_label setting pc labels (expr_tree index)

      by : Decided (FieldIsAffected exposure field) → IsClean exposure index ⊎ IsAffected exposure.bad asked →
          ((¬ FieldIsAffected exposure field) × IsClean exposure index)
          ⊎ IsAffected exposure.bad (join_of (field_label (program_tree program) field) asked)
      by (inl far) other = inr (affected_up exposure.bad (field_label (program_tree program) field) (join_of
          (field_label (program_tree program) field) asked)
          (integ_first (field_label (program_tree program) field) asked)
          (field_label_affected program scene _ field there.0 far))
      by (inr never) (inl clean) = inl (never, clean)
      by (inr never) (inr far) = inr (affected_up exposure.bad asked (join_of (field_label (program_tree program)
          field) asked)
          (integ_second (field_label (program_tree program) field) asked) far)
  clean_or_affected pc labels stay (expr.Not' p operand) pure there has =
      clean_or_affected pc labels stay operand pure there has
  clean_or_affected pc labels stay (expr.Negate' p operand) pure there has =
      clean_or_affected pc labels stay operand pure there has
  clean_or_affected pc labels stay (expr.Binary' operator p left q right) pure there has =
      by (clean_or_affected pc labels stay left pure.0 there.0 has.0)
      (clean_or_affected pc labels stay right pure.1 there.1 has.1)
    where
      one : Label
      one = expr_label setting pc labels (expr_tree left)

      two : Label
      two = expr_label setting pc labels (expr_tree right)

      by : IsClean exposure left ⊎ IsAffected exposure.bad one → IsClean exposure right ⊎ IsAffected exposure.bad two →
          (IsClean exposure left × IsClean exposure right) ⊎ IsAffected exposure.bad (join_of one two)
      by (inl clean) (inl also) = inl (clean, also)
      by (inr far) other = inr (affected_up exposure.bad one (join_of one two) (integ_first one two) far)
      by (inl clean) (inr far) = inr (affected_up exposure.bad two (join_of one two) (integ_second one two) far)
  clean_or_affected pc labels stay (expr.Declassify' p inner label) pure there has =
      ⊎_elim (λ clean. inl clean) (λ far. inr (affected_up exposure.bad
      (expr_label setting pc labels (expr_tree inner))
      (expr_label setting pc labels (expr_tree (expr.Declassify' p inner label)))
      (integ_crossed (join_of label.value pc) (expr_label setting pc labels (expr_tree inner))) far))
      (clean_or_affected pc labels stay inner pure there has)
  clean_or_affected pc labels stay (expr.Endorse' p inner label) pure there has = absurd pure

  -- what a value reaches that may be affected
  pub flow_reaches : (pc from to : Label) → Holds principals (flow_of pc from to) → IsAffected exposure.bad from →
      IsAffected exposure.bad to
  flow_reaches pc from to holds far =
      affected_up exposure.bad (join_of from pc) to holds.1
      (affected_up exposure.bad from (join_of from pc) (integ_first from pc) far)

  pub sets_well : (pc : Label) (labels later : VariableLabels) → Stay labels scene.final → Stay later scene.final →
      (x : VarId) → IsLabelled later x → (e : Expr) → IsUnendorsed (expr_tree e) →
      IsExprIn (program_tree program) own.id (expr_tree e) → IsExprLabelled labels (expr_tree e) →
      Holds principals (flow_of pc (expr_label setting pc labels (expr_tree e)) (variable_label later x)) →
      SetsWell exposure x e
  sets_well pc labels later stay stays x x_has e pure there has flows =
      ⊎_elim (λ clean. inr clean) (λ far. inl (variable_affected program scene later
      stays x
      x_has (flow_reaches pc (expr_label setting pc labels (expr_tree e)) (variable_label later x) flows far)))
      (clean_or_affected pc labels stay e pure there has)

  pub passed_well : (pc : Label) (labels : VariableLabels) → Stay labels scene.final →
      (params : List VarId) (args : List Expr) → AllByRecursion (IsLabelled labels) params →
      AllByRecursion IsUnendorsed (map expr_tree args) →
      AllByRecursion (IsExprIn (program_tree program) own.id) (map expr_tree args) →
      AllByRecursion (IsExprLabelled labels) (map expr_tree args) →
      AllByRecursion (Holds principals) (argument_flows setting pc labels (map expr_tree args) params) →
      ArePassedWell exposure params args
  passed_well pc labels stay [] args has pure there values holds = tt
  passed_well pc labels stay (param ∷ params) [] has pure there values holds = tt
  passed_well pc labels stay (param ∷ params) (arg ∷ args) has pure there values holds = (
    sets_well pc labels labels stay stay param has.0 arg pure.0 there.0 values.0 holds.0,
    passed_well pc labels stay params args has.1 pure.1 there.1 values.1 holds.1,
  )

  pub kept_well : (pc : Label) (labels : VariableLabels) → Stay labels scene.final → (into result : Option VarId) →
      IsLabelledIfAny labels into → IsLabelledIfAny labels result →
      AllByRecursion (Holds principals) (result_flows pc labels result into) → IsKeptWell exposure into result
  kept_well pc labels stay None result has also holds = tt
  kept_well pc labels stay (Some x) None has also holds = tt
  kept_well pc labels stay (Some x) (Some result) has also holds = by (variable_decided exposure result)
    where
      by : Decided (VariableIsAffected exposure result) →
          VariableIsAffected exposure x ⊎ (¬ VariableIsAffected exposure result)
      by (inl far) = inl (variable_affected program scene labels stay x has
          (flow_reaches pc (variable_label labels result) (variable_label labels x) holds.0
          (label_affected program scene labels stay result also far)))
      by (inr never) = inr never

  pub result_labelled : (labels : VariableLabels) → Stay (declared_labels (program_tree program)) labels →
      (called : MethodId) → IsLabelledIfAny labels (result_of (method_at (program_tree program) called))
  result_labelled labels since called = by (method_at (program_tree program) called) refl
    where
      by : (found : Option MethodTree) → method_at (program_tree program) called ≡ found →
          IsLabelledIfAny labels (result_of found)
      by None is = tt
      by (Some it) is = labelled_later_if_any (declared_labels (program_tree program)) labels since it.result
          (scene.results called.0 it is)
