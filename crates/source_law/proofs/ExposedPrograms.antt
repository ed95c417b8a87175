-- What may be affected of a program by the labels that are found while it is gone through is what may be affected by
-- those of an exposure, which stand behind all of it.
use Rattle.std.proofs.Common.{◌≡◌, ◌∙◌, ap, sym, subst, ℕ, List, map, length, Option, Some, None, IsSomeAnd, slice_get}
use Rattle.std.specs.Prelude.{unwrap_or, slice_index}
use Rattle.std.specs.Option.{option_map}
use Rattle.std.proofs.lemmas.Option.{slice_get-map}
use Rattle.js_base.specs.declared.ids.FieldId.{FieldId}
use Rattle.js_base.specs.declared.ids.VarId.{VarId}
use Rattle.js_base.specs.declared.ids.MethodId.{MethodId}
use Rattle.principals.specs.ActsFor.{Declared}
use Rattle.label_lattice.specs.declared.label.Label.{Label}
use Rattle.label_lattice.specs.Lattice.{empty_label}
use Rattle.jif_tree.specs.declared.program.Program.{Program}
use Rattle.jif_tree.specs.Altered.{Exposure, IsAffected, FieldIsAffected, VariableIsAffected}
use Rattle.jif_tree.specs.LabelRules.{VariableLabels, declared_labels, variable_label, field_label}
use Rattle.jif_tree.specs.Labelling.{IsLabelled, IsLabelledIfAny}
use Rattle.jif_tree.specs.Trees.{BlockTree, FieldTree, MethodTree, program_tree}
use Rattle.jif_tree.specs.WellNumbered.{HasField, HasOptionalVariable, IsBlockIn, is_some}
use Rattle.jif_tree.proofs.LabelsKept.{Stay}
use Rattle.need_labels.specs.Labelled.{Labelled}
use Rattle.need_labels.specs.Needs.{StatementUse, IsNeed}

-- A program with the program labels of its statements, and what some hosts may affect of it: by the labels of its
-- fields, and by those that its variables have behind all of it. Each result has a declared label.
pub record ExposedProgram (program : Program) : Type 0 where
  pub exposure : Exposure
  pub pc : List Label
  pub final : VariableLabels
  pub fields : exposure.fields ≡ map (λ field. field.label) (program_tree program).fields
  pub variables : exposure.variables ≡ map (λ label. unwrap_or label empty_label) final
  pub many : length exposure.variables ≡ length (program_tree program).vars
  pub results : (place : ℕ) (method : MethodTree) → slice_get (program_tree program).methods place ≡ Some method →
      IsLabelledIfAny (declared_labels (program_tree program)) method.result

-- one of its methods, by its number
pub record OwnMethod (program : Program) : Type 0 where
  pub tree : MethodTree
  pub id : MethodId
  pub result : HasOptionalVariable (program_tree program) id tree.result

-- a block stands in it
abbrev pub IsBlockOf : (program : Program) → OwnMethod program → BlockTree → Type 0
IsBlockOf program own block = IsBlockIn (program_tree program) own.id (is_some own.tree.result) block

-- the program with its labels, as needs see it
abbrev pub labelled_in : (program : Program) → ExposedProgram program → Labelled
labelled_in program scene =
    record { program = program_tree program; var_labels = scene.exposure.variables; pc = scene.pc }

-- a statement's need is what backs it
abbrev pub IsNeeded : Declared → (program : Program) → ExposedProgram program → StatementUse → Type 0
IsNeeded principals program scene one = IsNeed principals one.backing (slice_index scene.exposure.needs one.id.0)

module _ (program : Program) (scene : ExposedProgram program) where
  -- ---- variables

  shown_variable : (labels : VariableLabels) → Stay labels scene.final → (x : VarId) → IsLabelled labels x →
      slice_get scene.exposure.variables x.0 ≡ Some (variable_label labels x)
  shown_variable labels stay x (label, there) =
      let own : Option Label → Label = λ it. unwrap_or it empty_label in
      let here : label ≡ variable_label labels x =
      ap (λ it. unwrap_or (unwrap_or it None) empty_label) (sym there) in
      ap (λ list. slice_get list x.0) scene.variables ∙ slice_get-map own scene.final x.0
      ∙ ap (option_map own) (stay.kept x.0 label there) ∙ ap Some here

  pub variable_affected : (labels : VariableLabels) → Stay labels scene.final → (x : VarId) → IsLabelled labels x →
      IsAffected scene.exposure.bad (variable_label labels x) → VariableIsAffected scene.exposure x
  variable_affected labels stay x has far =
      let P : Option Label → Type 0 = λ found. IsSomeAnd found (IsAffected scene.exposure.bad) in
      subst P (sym (shown_variable labels stay x has)) far

  pub label_affected : (labels : VariableLabels) → Stay labels scene.final → (x : VarId) → IsLabelled labels x →
      VariableIsAffected scene.exposure x → IsAffected scene.exposure.bad (variable_label labels x)
  label_affected labels stay x has far =
      let P : Option Label → Type 0 = λ found. IsSomeAnd found (IsAffected scene.exposure.bad) in
      subst P (shown_variable labels stay x has) far

  -- ---- fields

  shown_field : (array : _) (field : FieldId) → HasField (program_tree program) array field →
      slice_get scene.exposure.fields field.0 ≡ Some (field_label (program_tree program) field)
  shown_field array field (tree, there, is_array) =
      let own : FieldTree → Label = λ it. it.label in
      let here : tree.label ≡ field_label (program_tree program) field =
      ap (λ found. unwrap_or (option_map own found) empty_label) (sym there) in
      ap (λ list. slice_get list field.0) scene.fields ∙ slice_get-map own (program_tree program).fields field.0
      ∙ ap (option_map own) there ∙ ap Some here

  pub field_affected : (array : _) (field : FieldId) → HasField (program_tree program) array field →
      IsAffected scene.exposure.bad (field_label (program_tree program) field) → FieldIsAffected scene.exposure field
  field_affected array field has far =
      let P : Option Label → Type 0 = λ found. IsSomeAnd found (IsAffected scene.exposure.bad) in
      subst P (sym (shown_field array field has)) far

  pub field_label_affected : (array : _) (field : FieldId) → HasField (program_tree program) array field →
      FieldIsAffected scene.exposure field → IsAffected scene.exposure.bad (field_label (program_tree program) field)
  field_label_affected array field has far =
      let P : Option Label → Type 0 = λ found. IsSomeAnd found (IsAffected scene.exposure.bad) in
      subst P (shown_field array field has) far
