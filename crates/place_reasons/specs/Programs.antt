-- What the laws need of a program whose labels were checked.
use Rattle.std.specs.Prelude.{◌≡◌, ◌++◌, ◌∷◌, [], List, All, map, filter, nat_eq, Some, slice_get}
use Rattle.std.specs.List.{flat_map}
use Rattle.js_base.specs.declared.ids.FieldId.{FieldId}
use Rattle.principals.specs.ActsFor.{Declared, AreDeclared}
use Rattle.label_lattice.specs.declared.label.Label.{Label}
use Rattle.label_lattice.specs.Over.{IsLabelOver}
use Rattle.jif_tree.specs.Trees.{FieldTree, BlockTree, done, set_local, set_field, set_element, branch, loop, call}
use Rattle.jif_tree.specs.Trees.{give_back, ProgramTree}
use Rattle.jif_tree.specs.LabelRules.{MethodSetting, part_labels, method_at, begin_label, program_labels}
use Rattle.jif_tree.specs.LabelRules.{variable_labels}
use Rattle.need_labels.specs.Labelled.{Labelled, pc_of, all_labels}
use Rattle.need_labels.specs.Needs.{Telling, told_of, statement_uses, kept_result, Backing, for_label, for_release}
use Rattle.place_reasons.specs.Reasons.{id_of, exprs_of}

-- all that reads tell
abbrev pub program_tellings : Declared → Labelled → List Telling
program_tellings principals labelled = flat_map (λ one. one.tellings) (statement_uses principals labelled)

-- the labels that are told of a field, and their join
abbrev pub labels_told : Declared → Labelled → FieldId → List Label
labels_told principals labelled field =
    map (λ telling. telling.label)
    (filter (λ telling. nat_eq telling.field.0 field.0) (program_tellings principals labelled))

abbrev pub all_told : Declared → Labelled → FieldId → Label
all_told principals labelled field = told_of principals (program_tellings principals labelled) field.0

-- a field of the program, whose label is over the principals, and so is each that its reads tell
pub record IsFieldOver (principals : Declared) (labelled : Labelled) (field : FieldId) (tree : FieldTree) : Type 0 where
  pub place : slice_get labelled.program.fields field.0 ≡ Some tree
  pub label : IsLabelOver principals tree.label
  pub told : All (IsLabelOver principals) (labels_told principals labelled field)

-- what the first statement of a block tells beside its expressions: how the method that it calls begins, and what that
-- gives back where it is kept
abbrev pub told_beside : Labelled → BlockTree → List Label
told_beside labelled done = []
told_beside labelled (set_local heading x value rest) = []
told_beside labelled (set_field heading field value rest) = []
told_beside labelled (set_element heading field index value rest) = []
told_beside labelled (branch heading guard first second rest) = []
told_beside labelled (loop heading guard body rest) = []
told_beside labelled (call heading place method arguments into rest) =
    let called = method_at labelled.program method in
    begin_label called ∷ kept_result labelled called into
told_beside labelled (give_back heading value rest) = []

-- the labels of what it tells beside its program label
abbrev pub labels_of_use : Labelled → MethodSetting → BlockTree → List Label
labels_of_use labelled setting block =
    flat_map (part_labels setting (pc_of labelled (id_of block)) (all_labels labelled)) (exprs_of block)
    ++ told_beside labelled block

-- all of them are over the principals
pub record IsUseOver (principals : Declared) (labelled : Labelled) (setting : MethodSetting) (block : BlockTree) :
    Type 0 where
  pub pc : IsLabelOver principals (pc_of labelled (id_of block))
  pub told : All (IsLabelOver principals) (labels_of_use labelled setting block)

-- what follows the first statement of a block
abbrev pub rest_of : BlockTree → BlockTree
rest_of done = done
rest_of (set_local heading x value rest) = rest
rest_of (set_field heading field value rest) = rest
rest_of (set_element heading field index value rest) = rest
rest_of (branch heading guard first second rest) = rest
rest_of (loop heading guard body rest) = rest
rest_of (call heading place method arguments into rest) = rest
rest_of (give_back heading value rest) = rest

-- those who have to trust a host are declared principals: the label is over them, and the authority is of them
abbrev pub IsBackingOver : Declared → Backing → Type 0
IsBackingOver principals (for_label label) = IsLabelOver principals label
IsBackingOver principals (for_release authority) = AreDeclared principals authority

-- ---- programs

-- the program with the labels that the label check finds
abbrev pub labelled_by : Declared → ProgramTree → Labelled
labelled_by principals program = record {
  program = program;
  var_labels = variable_labels principals program;
  pc = map (λ statement. statement.pc) (program_labels principals program);
}
