-- The labels of a program that was checked are over the declared principals, and so is all that is made of them.
use Rattle.std.proofs.Common.{◌≡◌, inl, inr, ℕ, zero, suc, List, [], ◌∷◌, ◌++◌, map, flat_map, refl, sym}
use Rattle.std.proofs.Common.{subst}
use Rattle.std.specs.Prelude.{All, Option, Some, None, slice_get, slice_set, unwrap_or}
use Rattle.std.specs.List.{list_any}
use Rattle.std.specs.Option.{option_map}
use Rattle.std.proofs.lemmas.Bool.{cases_Bool, cases_eq}
use Rattle.std.proofs.lemmas.List.Concat.{flat_map-cons}
use Rattle.std.proofs.lemmas.List.Elements.{All-append, All-nil, All-cons, All-head, All-tail, All-map, All-filter}
use Rattle.std.proofs.lemmas.Grind.{flat_map-append}
use Rattle.std.proofs.lemmas.Option.{slice_get_cases}
use Rattle.js_base.specs.declared.ids.FieldId.{FieldId}
use Rattle.js_base.specs.declared.ids.MethodId.{MethodId}
use Rattle.js_base.specs.declared.ids.StmtId.{StmtId}
use Rattle.js_base.specs.declared.ids.VarId.{VarId}
use Rattle.principals.specs.ActsFor.{Declared, AreDeclared, IsDeclared}
use Rattle.label_lattice.specs.declared.label.Label.{Label}
use Rattle.label_lattice.specs.Lattice.{empty_label, join_of}
use Rattle.label_lattice.specs.Over.{IsLabelOver}
use Rattle.jif_tree.specs.Trees.{ExprTree, number, local, scalar, element, inverted, negated, binary, declassified}
use Rattle.jif_tree.specs.Trees.{endorsed, BlockTree, done, set_local, set_field, set_element, branch, loop, call}
use Rattle.jif_tree.specs.Trees.{give_back, FieldTree, VarTree, MethodTree, ProgramTree}
use Rattle.jif_tree.specs.LabelRules.{MethodSetting, VariableLabels, StatementLabels, expr_label, part_labels, guarded}
use Rattle.jif_tree.specs.LabelRules.{variable_label, field_label, method_at, begin_label, result_of, labels_after}
use Rattle.jif_tree.specs.LabelRules.{block_labels, setting_of, methods_labels, labels_after_methods, declared_labels}
use Rattle.jif_tree.specs.LabelRules.{program_labels, labels_after_assignment}
use Rattle.jif_tree.specs.WrittenLabels.{written_in, written_in_block, label_of_variable}
use Rattle.label_check.specs.RuleLaws.{AreNamedOver}
use Rattle.label_check.proofs.LabelOrder.{LabelOrder, expr_over}
use Rattle.label_reasons.specs.Programs.{IsMethodOver, IsProgramOver}
use Rattle.label_reasons.proofs.BlockCauses.{set_there, set_elsewhere}
use Rattle.label_reasons.proofs.Failing.{all_flat}
use Rattle.need_labels.specs.Labelled.{Labelled, pc_of, all_labels}
use Rattle.need_labels.specs.Needs.{Telling, tellings_in, StatementUse, Backing, for_label, for_release, for_releases}
use Rattle.need_labels.specs.Needs.{releases, label_of, labels_of, kept_result, block_uses, method_uses, statement_uses}
use Rattle.need_labels.specs.Needs.{all_backing}
use Rattle.need_labels.proofs.Backings.{releasing_is, not_releasing_is}
use Rattle.place_reasons.specs.declared.reason.Needed.{Needed}
use Rattle.place_reasons.specs.declared.reason.Needed.TheVariants as needed
use Rattle.place_reasons.specs.Programs.{told_beside, IsUseOver, IsBackingOver, labelled_by, labels_told}
use Rattle.place_reasons.specs.Programs.{program_tellings}
use Rattle.place_reasons.specs.Reasons.{Site, id_of, exprs_of}
use Rattle.place_reasons.specs.Refuted.{needed_label}
use Rattle.place_reasons.proofs.BackedStatements.{changes_at, own_backing, inner_uses, backing_is}

-- ---- lists

pub both_of : {X : Type 0} (P : X → Type 0) (xs ys : List X) → All P (xs ++ ys) → All P xs × All P ys
both_of P [] ys all = (All-nil P, all)
both_of P (x ∷ xs) ys all =
    let both = both_of P xs ys (All-tail P x (xs ++ ys) all) in
    (All-cons P x xs (All-head P x (xs ++ ys) all) both.0, both.1)

pub each_of : {X : Type 0} (P : X → Type 0) → ((x : X) → P x) → (xs : List X) → All P xs
each_of P each [] = All-nil P
each_of P each (x ∷ xs) = All-cons P x xs (each x) (each_of P each xs)

-- what holds of what is made of an item, and where there is none
at_place : {X Y : Type 0} (Q : Y → Type 0) (P : X → Type 0) (f : Option X → Y) → Q (f None) →
    ((x : X) → P x → Q (f (Some x))) → (xs : List X) → All P xs → (k : ℕ) → Q (f (slice_get xs k))
at_place {X} {Y} Q P f none makes xs all k = elim (slice_get_cases xs k).1 [
  | inl (x, within, is, read) ↦
      let R : Option X → Type 0 = λ found. Q (f found) in
      let S : X → Type 0 = P in
      subst R (sym is) (makes x (subst S read (all k x within)))
  | inr (past, missing) ↦
      let R : Option X → Type 0 = λ found. Q (f found) in
      subst R (sym missing) none
]

-- ---- what is known of the labels of a program

pub record IsAllOver (principals : Declared) (labelled : Labelled) : Type 0 where
  pub declared : IsDeclared principals
  pub order : LabelOrder principals
  pub pcs : (here : StmtId) → IsLabelOver principals (pc_of labelled here)
  pub fields : (field : FieldId) → IsLabelOver principals (field_label labelled.program field)
  pub variables : (x : VarId) → IsLabelOver principals (label_of labelled x)
  pub begins : (method : MethodId) → IsLabelOver principals (begin_label (method_at labelled.program method))

-- ---- program labels

abbrev PcOver : Declared → StatementLabels → Type 0
PcOver principals one = IsLabelOver principals one.pc

abbrev AreWritten : Declared → List Label → Type 0
AreWritten principals labels = All (IsLabelOver principals) labels

-- the labels of variables behind an assignment
set_over : (P : Label → Type 0) (labels : VariableLabels) (x : VarId) (label : Label) →
    slice_get labels x.0 ≡ Some None → P label → ((y : VarId) → P (variable_label labels y)) → (y : VarId) →
    P (variable_label (slice_set labels x.0 (Some label)) y)
set_over P labels x label found holds all y = elim (cases_eq y.0 x.0) [
  | inl same ↦
      let R : ℕ → Type 0 = λ place. slice_get (slice_set labels x.0 (Some label)) place ≡ Some (Some label) in
      let there : R y.0 = subst R (sym same) (set_there labels x.0 None (Some label) found) in
      rw there holds
  | inr other ↦
      let elsewhere : slice_get (slice_set labels x.0 (Some label)) y.0 ≡ slice_get labels y.0 =
      set_elsewhere labels x.0 y.0 (Some label) other in
      rw elsewhere (all y)
]

assigned_over : (P : Label → Type 0) (labels : VariableLabels) (x : VarId) (label : Label) → P label →
    ((y : VarId) → P (variable_label labels y)) → (y : VarId) →
    P (variable_label (labels_after_assignment labels x label) y)
assigned_over P labels x label holds all = by (slice_get labels x.0) refl
  where
    by : (found : Option (Option Label)) → slice_get labels x.0 ≡ found → (y : VarId) →
        P (variable_label (labels_after_assignment labels x label) y)
    by None is y = rw is (all y)
    by (Some (Some declared)) is y = rw is (all y)
    by (Some None) is y = rw is (set_over P labels x label is holds all y)

-- the program labels of a block, and the labels of variables behind it
record IsBlockOver (setting : MethodSetting) (pc : Label) (labels : VariableLabels) (block : BlockTree) : Type 0 where
  pcs : All (PcOver setting.principals) (block_labels setting pc labels block)
  after : AreNamedOver setting (labels_after setting pc labels block)

-- a statement with none inside it, and what follows
plain_over : (setting : MethodSetting) (pc : Label) (one : StatementLabels) (labels : VariableLabels)
    (rest : BlockTree) → IsLabelOver setting.principals one.pc → IsBlockOver setting pc labels rest →
    All (PcOver setting.principals) (one ∷ block_labels setting pc labels rest)
plain_over setting pc one labels rest own behind =
    All-cons (PcOver setting.principals) one (block_labels setting pc labels rest) own behind.pcs

block_named : (setting : MethodSetting) → LabelOrder setting.principals → (pc : Label) (labels : VariableLabels)
    (block : BlockTree) → IsLabelOver setting.principals pc → AreNamedOver setting labels →
    AreWritten setting.principals (written_in_block block) → IsBlockOver setting pc labels block
block_named setting order pc labels done under named written =
    record { pcs = All-nil (PcOver setting.principals); after = named }
block_named setting order pc labels (set_local heading x value rest) under named written =
    let P : Label → Type 0 = IsLabelOver setting.principals in
    let both = both_of P (written_in value) (written_in_block rest) written in
    let label : Label = join_of (expr_label setting pc labels value) pc in
    let own : P label = order.join (expr_label setting pc labels value) pc
    (expr_over {setting = setting} order pc value under named both.0) under in
    let behind = block_named setting order pc (labels_after_assignment labels x label) rest under (record {
      declared = named.declared;
      fields = named.fields;
      variables = assigned_over P labels x label own named.variables;
    }) both.1 in
    record {
      pcs = plain_over setting pc _ (labels_after_assignment labels x label) rest under behind;
      after = behind.after;
    }
block_named setting order pc labels (set_field heading field value rest) under named written =
    let behind = block_named setting order pc labels rest under named
    (both_of (IsLabelOver setting.principals) (written_in value) (written_in_block rest) written).1 in
    record { pcs = plain_over setting pc _ labels rest under behind; after = behind.after }
block_named setting order pc labels (set_element heading field index value rest) under named written =
    let behind = block_named setting order pc labels rest under named
    (both_of (IsLabelOver setting.principals) (written_in index ++ written_in value) (written_in_block rest) written).1
    in
    record { pcs = plain_over setting pc _ labels rest under behind; after = behind.after }
block_named setting order pc labels (branch heading guard first second rest) under named written =
    let P : Label → Type 0 = IsLabelOver setting.principals in
    let Q : StatementLabels → Type 0 = PcOver setting.principals in
    let outer = both_of P ((written_in guard ++ written_in_block first) ++ written_in_block second)
    (written_in_block rest) written in
    let blocks = both_of P (written_in guard ++ written_in_block first) (written_in_block second) outer.0 in
    let before = both_of P (written_in guard) (written_in_block first) blocks.0 in
    let label : Label = guarded setting pc labels guard in
    let inside : P label = order.join pc (expr_label setting pc labels guard) under
    (expr_over {setting = setting} order pc guard under named before.0) in
    let middle : VariableLabels = labels_after setting label labels first in
    let last : VariableLabels = labels_after setting label middle second in
    let one = block_named setting order label labels first inside named before.1 in
    let two = block_named setting order label middle second inside one.after blocks.1 in
    let behind = block_named setting order pc last rest under two.after outer.1 in
    let firsts : List StatementLabels = block_labels setting label labels first in
    let seconds : List StatementLabels = block_labels setting label middle second in
    let rests : List StatementLabels = block_labels setting pc last rest in
    record {
      pcs = All-cons Q _ ((firsts ++ seconds) ++ rests) under
          (All-append Q (firsts ++ seconds) rests (All-append Q firsts seconds one.pcs two.pcs) behind.pcs);
      after = behind.after;
    }
block_named setting order pc labels (loop heading guard body rest) under named written =
    let P : Label → Type 0 = IsLabelOver setting.principals in
    let Q : StatementLabels → Type 0 = PcOver setting.principals in
    let outer = both_of P (written_in guard ++ written_in_block body) (written_in_block rest) written in
    let before = both_of P (written_in guard) (written_in_block body) outer.0 in
    let label : Label = guarded setting pc labels guard in
    let inside : P label = order.join pc (expr_label setting pc labels guard) under
    (expr_over {setting = setting} order pc guard under named before.0) in
    let last : VariableLabels = labels_after setting label labels body in
    let one = block_named setting order label labels body inside named before.1 in
    let behind = block_named setting order pc last rest under one.after outer.1 in
    let bodies : List StatementLabels = block_labels setting label labels body in
    let rests : List StatementLabels = block_labels setting pc last rest in
    record {
      pcs = All-cons Q _ (bodies ++ rests) inside (All-append Q bodies rests one.pcs behind.pcs);
      after = behind.after;
    }
block_named setting order pc labels (call heading site method arguments into rest) under named written =
    let behind = block_named setting order pc labels rest under named
    (both_of (IsLabelOver setting.principals) (flat_map written_in arguments) (written_in_block rest) written).1 in
    record { pcs = plain_over setting pc _ labels rest under behind; after = behind.after }
block_named setting order pc labels (give_back heading value rest) under named written =
    let behind = block_named setting order pc labels rest under named
    (both_of (IsLabelOver setting.principals) (written_in value) (written_in_block rest) written).1 in
    record { pcs = plain_over setting pc _ labels rest under behind; after = behind.after }

-- the labels of variables behind some methods, and the program labels in them
record AreMethodsOver (principals : Declared) (program : ProgramTree) (labels : VariableLabels)
    (methods : List MethodTree) : Type 0 where
  pcs : All (PcOver principals) (methods_labels principals program labels methods)
  after : (x : VarId) →
      IsLabelOver principals (variable_label (labels_after_methods principals program labels methods) x)

methods_over : (principals : Declared) (program : ProgramTree) → LabelOrder principals → IsDeclared principals →
    ((field : FieldId) → IsLabelOver principals (field_label program field)) → (labels : VariableLabels) →
    (methods : List MethodTree) → ((x : VarId) → IsLabelOver principals (variable_label labels x)) →
    All (IsMethodOver principals) methods → AreMethodsOver principals program labels methods
methods_over principals program order declared fields labels [] variables all =
    record { pcs = All-nil (PcOver principals); after = variables }
methods_over principals program order declared fields labels (method ∷ methods) variables all =
    let setting : MethodSetting = setting_of principals program method in
    let first = All-head (IsMethodOver principals) method methods all in
    let named : AreNamedOver setting labels = record { declared = declared; fields = fields; variables = variables } in
    let one = block_named setting order method.begin labels method.body first.begin named first.body in
    let after : VariableLabels = labels_after setting method.begin labels method.body in
    let behind = methods_over principals program order declared fields after methods one.after.variables
    (All-tail (IsMethodOver principals) method methods all) in
    let own : List StatementLabels = block_labels setting method.begin labels method.body in
    let others : List StatementLabels = methods_labels principals program after methods in
    record {
      pcs = All-cons (PcOver principals) _ (own ++ others) first.begin
          (All-append (PcOver principals) own others one.pcs behind.pcs);
      after = behind.after;
    }

-- the label of each variable is that behind the whole program
same_variable : (labels : VariableLabels) (place : ℕ) →
    unwrap_or (unwrap_or (slice_get (map Some (map (λ label. unwrap_or label empty_label) labels)) place) None)
    empty_label ≡ unwrap_or (unwrap_or (slice_get labels place) None) empty_label
same_variable [] place = refl
same_variable (None ∷ labels) zero = refl
same_variable (Some label ∷ labels) zero = refl
same_variable (label ∷ labels) (suc place) = same_variable labels place

variable_over : (principals : Declared) (program : ProgramTree) → IsLabelOver principals empty_label →
    All (λ variable. All (IsLabelOver principals) (label_of_variable variable.label)) program.vars → (x : VarId) →
    IsLabelOver principals (variable_label (declared_labels program) x)
variable_over principals program empty all x =
    at_place (IsLabelOver principals) (λ label. All (IsLabelOver principals) (label_of_variable label))
    (λ found. unwrap_or (unwrap_or found None) empty_label) empty (λ label is. written label is)
    (declared_labels program)
    (All-map (λ label. All (IsLabelOver principals) (label_of_variable label)) (λ (variable : VarTree). variable.label)
    program.vars all) x.0
  where
    written : (label : Option Label) → All (IsLabelOver principals) (label_of_variable label) →
        IsLabelOver principals (unwrap_or label empty_label)
    written None is = empty
    written (Some label) is = All-head (IsLabelOver principals) label [] is

pub all_over : (principals : Declared) (program : ProgramTree) → LabelOrder principals →
    IsProgramOver principals program → IsAllOver principals (labelled_by principals program)
all_over principals program order is =
    let P : Label → Type 0 = IsLabelOver principals in
    let fields : (field : FieldId) → P (field_label program field) = λ field.
    at_place P (λ (tree : FieldTree). P tree.label)
    (λ found. unwrap_or (option_map (λ tree. tree.label) found) empty_label) order.empty (λ tree held. held)
    program.fields is.fields field.0 in
    let methods = methods_over principals program order is.declared fields (declared_labels program) program.methods
    (variable_over principals program order.empty is.variables) is.methods in
    record {
      declared = is.declared;
      order = order;
      pcs = λ here. at_place P P (λ found. unwrap_or found empty_label) order.empty (λ label held. held)
          (map (λ statement. statement.pc) (program_labels principals program))
          (All-map P (λ statement. statement.pc) (program_labels principals program) methods.pcs) here.0;
      fields = fields;
      variables = λ x. subst P
          (sym (same_variable (labels_after_methods principals program (declared_labels program) program.methods) x.0))
          (methods.after x);
      begins = λ method. at_place P (IsMethodOver principals) begin_label order.empty (λ tree held. held.begin)
          program.methods is.methods method.0;
    }

-- ---- expressions

named_of : (principals : Declared) (labelled : Labelled) → IsAllOver principals labelled → (method : MethodTree) →
    AreNamedOver (setting_of principals labelled.program method) (all_labels labelled)
named_of principals labelled over method =
    record { declared = over.declared; fields = over.fields; variables = over.variables }

parts_over : {setting : MethodSetting} (order : LabelOrder setting.principals) (pc : Label) {labels : VariableLabels}
    (value : ExprTree) → IsLabelOver setting.principals pc → AreNamedOver setting labels →
    AreWritten setting.principals (written_in value) →
    All (IsLabelOver setting.principals) (part_labels setting pc labels value)
parts_over {setting} order pc (number value) under named written =
    All-cons (IsLabelOver setting.principals) _ [] (expr_over order pc (number value) under named written)
    (All-nil (IsLabelOver setting.principals))
parts_over {setting} order pc (local x) under named written =
    All-cons (IsLabelOver setting.principals) _ [] (expr_over order pc (local x) under named written)
    (All-nil (IsLabelOver setting.principals))
parts_over {setting} order pc (scalar field) under named written =
    All-cons (IsLabelOver setting.principals) _ [] (expr_over order pc (scalar field) under named written)
    (All-nil (IsLabelOver setting.principals))
parts_over {setting} order pc {labels} (element field index) under named written =
    let P : Label → Type 0 = IsLabelOver setting.principals in
    All-append P (part_labels setting pc labels index) (expr_label setting pc labels (element field index) ∷ [])
    (parts_over order pc index under named written)
    (All-cons P _ [] (expr_over order pc (element field index) under named written) (All-nil P))
parts_over {setting} order pc {labels} (inverted operand) under named written =
    let P : Label → Type 0 = IsLabelOver setting.principals in
    All-append P (part_labels setting pc labels operand) (expr_label setting pc labels (inverted operand) ∷ [])
    (parts_over order pc operand under named written)
    (All-cons P _ [] (expr_over order pc (inverted operand) under named written) (All-nil P))
parts_over {setting} order pc {labels} (negated operand) under named written =
    let P : Label → Type 0 = IsLabelOver setting.principals in
    All-append P (part_labels setting pc labels operand) (expr_label setting pc labels (negated operand) ∷ [])
    (parts_over order pc operand under named written)
    (All-cons P _ [] (expr_over order pc (negated operand) under named written) (All-nil P))
parts_over {setting} order pc {labels} (binary operator left right) under named written =
    let P : Label → Type 0 = IsLabelOver setting.principals in
    let both = both_of P (written_in left) (written_in right) written in
    All-append P (part_labels setting pc labels left ++ part_labels setting pc labels right)
    (expr_label setting pc labels (binary operator left right) ∷ [])
    (All-append P (part_labels setting pc labels left) (part_labels setting pc labels right)
    (parts_over order pc left under named both.0) (parts_over order pc right under named both.1))
    (All-cons P _ [] (expr_over order pc (binary operator left right) under named written) (All-nil P))
parts_over {setting} order pc {labels} (declassified operand label) under named written =
    let P : Label → Type 0 = IsLabelOver setting.principals in
    All-append P (part_labels setting pc labels operand)
    (expr_label setting pc labels (declassified operand label) ∷ [])
    (parts_over order pc operand under named (both_of P (written_in operand) (label ∷ []) written).0)
    (All-cons P _ [] (expr_over order pc (declassified operand label) under named written) (All-nil P))
parts_over {setting} order pc {labels} (endorsed operand label) under named written =
    let P : Label → Type 0 = IsLabelOver setting.principals in
    All-append P (part_labels setting pc labels operand) (expr_label setting pc labels (endorsed operand label) ∷ [])
    (parts_over order pc operand under named (both_of P (written_in operand) (label ∷ []) written).0)
    (All-cons P _ [] (expr_over order pc (endorsed operand label) under named written) (All-nil P))

abbrev IsTellingOver : Declared → Telling → Type 0
IsTellingOver principals telling = IsLabelOver principals telling.label

tells_over : (principals : Declared) (labelled : Labelled) → IsAllOver principals labelled → (method : MethodTree)
    (pc : Label) (value : ExprTree) → IsLabelOver principals pc → AreWritten principals (written_in value) →
    All (IsTellingOver principals) (tellings_in (setting_of principals labelled.program method) labelled pc value)
tells_over principals labelled over method pc (number value) under written = All-nil (IsTellingOver principals)
tells_over principals labelled over method pc (local x) under written = All-nil (IsTellingOver principals)
tells_over principals labelled over method pc (scalar field) under written =
    All-cons (IsTellingOver principals) _ [] under (All-nil (IsTellingOver principals))
tells_over principals labelled over method pc (element field index) under written =
    let P : Telling → Type 0 = IsTellingOver principals in
    let setting : MethodSetting = setting_of principals labelled.program method in
    let run : Telling = record { field = field; label = pc } in
    let which : Telling =
    record { field = field; label = expr_label setting pc (all_labels labelled) index } in
    All-append P (tellings_in setting labelled pc index) (run ∷ which ∷ [])
    (tells_over principals labelled over method pc index under written)
    (All-cons P run (which ∷ []) under (All-cons P which [] (expr_over {setting = setting} over.order pc index under
    (named_of principals labelled over method) written) (All-nil P)))
tells_over principals labelled over method pc (inverted operand) under written =
    tells_over principals labelled over method pc operand under written
tells_over principals labelled over method pc (negated operand) under written =
    tells_over principals labelled over method pc operand under written
tells_over principals labelled over method pc (binary operator left right) under written =
    let setting : MethodSetting = setting_of principals labelled.program method in
    let both = both_of (IsLabelOver principals) (written_in left) (written_in right) written in
    All-append (IsTellingOver principals) (tellings_in setting labelled pc left)
    (tellings_in setting labelled pc right)
    (tells_over principals labelled over method pc left under both.0)
    (tells_over principals labelled over method pc right under both.1)
tells_over principals labelled over method pc (declassified operand label) under written =
    tells_over principals labelled over method pc operand under
    (both_of (IsLabelOver principals) (written_in operand) (label ∷ []) written).0
tells_over principals labelled over method pc (endorsed operand label) under written =
    tells_over principals labelled over method pc operand under
    (both_of (IsLabelOver principals) (written_in operand) (label ∷ []) written).0

-- what is made of each of some expressions, where all that is written in them is over the principals
made_over : {Y : Type 0} (principals : Declared) (Q : Y → Type 0) (f : ExprTree → List Y) →
    ((value : ExprTree) → AreWritten principals (written_in value) → All Q (f value)) → (values : List ExprTree) →
    AreWritten principals (flat_map written_in values) → All Q (flat_map f values)
made_over principals Q f makes [] written = All-nil Q
made_over principals Q f makes (value ∷ values) written =
    let P : List Label → Type 0 = AreWritten principals in
    let both = both_of (IsLabelOver principals) (written_in value) (flat_map written_in values)
    (subst P (flat_map-cons written_in value values) written) in
    rw (flat_map-cons f value values) (All-append Q (f value) (flat_map f values) (makes value both.0)
    (made_over principals Q f makes values both.1))

-- ---- statements

kept_over : (principals : Declared) (labelled : Labelled) → IsAllOver principals labelled → (kept : Option VarId) →
    All (IsLabelOver principals) (labels_of labelled kept)
kept_over principals labelled over None = All-nil (IsLabelOver principals)
kept_over principals labelled over (Some x) =
    All-cons (IsLabelOver principals) _ [] (over.variables x) (All-nil (IsLabelOver principals))

result_over : (principals : Declared) (labelled : Labelled) → IsAllOver principals labelled →
    (called : Option MethodTree) (into : Option VarId) →
    All (IsLabelOver principals) (kept_result labelled called into)
result_over principals labelled over called None = All-nil (IsLabelOver principals)
result_over principals labelled over called (Some into) = kept_over principals labelled over (result_of called)

beside_over : (principals : Declared) (labelled : Labelled) → IsAllOver principals labelled → (block : BlockTree) →
    All (IsLabelOver principals) (told_beside labelled block)
beside_over principals labelled over done = All-nil (IsLabelOver principals)
beside_over principals labelled over (set_local heading x value rest) = All-nil (IsLabelOver principals)
beside_over principals labelled over (set_field heading field value rest) = All-nil (IsLabelOver principals)
beside_over principals labelled over (set_element heading field index value rest) = All-nil (IsLabelOver principals)
beside_over principals labelled over (branch heading guard first second rest) = All-nil (IsLabelOver principals)
beside_over principals labelled over (loop heading guard body rest) = All-nil (IsLabelOver principals)
beside_over principals labelled over (call heading place method arguments into rest) =
    All-cons (IsLabelOver principals) _ _ (over.begins method)
    (result_over principals labelled over (method_at labelled.program method) into)
beside_over principals labelled over (give_back heading value rest) = All-nil (IsLabelOver principals)

pub use_over : (principals : Declared) (labelled : Labelled) → IsAllOver principals labelled → (method : MethodTree)
    (block : BlockTree) → AreWritten principals (flat_map written_in (exprs_of block)) →
    IsUseOver principals labelled (setting_of principals labelled.program method) block
use_over principals labelled over method block written =
    let setting : MethodSetting = setting_of principals labelled.program method in
    let pc : Label = pc_of labelled (id_of block) in
    record {
      pc = over.pcs (id_of block);
      told = All-append (IsLabelOver principals)
          (flat_map (part_labels setting pc (all_labels labelled)) (exprs_of block)) (told_beside labelled block)
          (made_over principals (IsLabelOver principals) (part_labels setting pc (all_labels labelled))
          (λ value inner. parts_over {setting = setting} over.order pc value (over.pcs (id_of block))
          (named_of principals labelled over method) inner) (exprs_of block) written)
          (beside_over principals labelled over block);
    }

-- ---- who backs

needed_over : (principals : Declared) (labelled : Labelled) → IsAllOver principals labelled → (method : MethodTree) →
    IsLabelOver principals method.begin → (what : Needed) → IsLabelOver principals (needed_label labelled method what)
needed_over principals labelled over method begin (needed.Variable x) = over.variables x
needed_over principals labelled over method begin (needed.Field field) = over.fields field
needed_over principals labelled over method begin (needed.Begin called) = over.begins called
needed_over principals labelled over method begin (needed.Parameter x called) = over.variables x
needed_over principals labelled over method begin (needed.Result x) = over.variables x
needed_over principals labelled over method begin needed.Head = begin

released_over : (principals : Declared) (setting : MethodSetting) (values : List ExprTree) →
    AreDeclared principals setting.authority → All (IsBackingOver principals) (for_releases setting values)
released_over principals setting values authority = elim (cases_Bool (list_any releases values)) [
  | inl is ↦
      let P : List Backing → Type 0 = All (IsBackingOver principals) in
      subst P (sym (releasing_is setting values (sym is)))
      (All-cons (IsBackingOver principals) (for_release setting.authority) [] authority
      (All-nil (IsBackingOver principals)))
  | inr lacks ↦
      let P : List Backing → Type 0 = All (IsBackingOver principals) in
      subst P (sym (not_releasing_is setting values (sym lacks))) (All-nil (IsBackingOver principals))
]

-- where a statement stands, with labels over the principals
pub record IsSiteOver (site : Site) (method : MethodTree) : Type 0 where
  pub over : IsAllOver site.principals site.labelled
  pub begin : IsLabelOver site.principals method.begin
  pub authority : AreDeclared site.principals site.setting.authority

own_over : (site : Site) (method : MethodTree) → IsSiteOver site method → (block : BlockTree) →
    All (IsBackingOver site.principals) (own_backing site method block)
own_over site method is block =
    let P : Backing → Type 0 = IsBackingOver site.principals in
    let labels : List Label = map (needed_label site.labelled method) (changes_at site block) in
    All-append P (map for_label labels) (for_releases site.setting (exprs_of block))
    (All-map P for_label labels
    (All-map (IsLabelOver site.principals) (needed_label site.labelled method) (changes_at site block)
    (each_of (λ what. IsLabelOver site.principals (needed_label site.labelled method what))
    (needed_over site.principals site.labelled is.over method is.begin) (changes_at site block))))
    (released_over site.principals site.setting (exprs_of block) is.authority)

-- of the first statement of a block, by that of what stands in it
one_over : (site : Site) (method : MethodTree) → IsSiteOver site method → (block : BlockTree) (one : StatementUse)
    (inside : List StatementUse) → block_uses site.labelled site.setting block ≡ one ∷ inside →
    All (IsBackingOver site.principals) (all_backing (inner_uses site block)) →
    All (IsBackingOver site.principals) one.backing
one_over site method is block one inside uses inner =
    let Q : List Backing → Type 0 = All (IsBackingOver site.principals) in
    subst Q (sym (backing_is site method block one inside uses))
    (All-append (IsBackingOver site.principals) (own_backing site method block)
    (all_backing (inner_uses site block)) (own_over site method is block) inner)

block_over : (site : Site) (method : MethodTree) → IsSiteOver site method → (block : BlockTree) (one : StatementUse)
    (inside : List StatementUse) → block_uses site.labelled site.setting block ≡ one ∷ inside →
    All (IsBackingOver site.principals) (all_backing (inner_uses site block)) →
    All (IsBackingOver site.principals) (all_backing inside) →
    All (IsBackingOver site.principals) (all_backing (block_uses site.labelled site.setting block))
block_over site method is block one inside uses inner behind =
    let R : List StatementUse → Type 0 = λ list. All (IsBackingOver site.principals) (all_backing list) in
    let Q : List Backing → Type 0 = All (IsBackingOver site.principals) in
    subst R (sym uses) (subst Q (sym (flat_map-cons (λ (item : StatementUse). item.backing) one inside))
    (All-append (IsBackingOver site.principals) one.backing (all_backing inside)
    (one_over site method is block one inside uses inner) behind))

two_over : (principals : Declared) (first second : List StatementUse) →
    All (IsBackingOver principals) (all_backing first) → All (IsBackingOver principals) (all_backing second) →
    All (IsBackingOver principals) (all_backing (first ++ second))
two_over principals first second one two =
    let Q : List Backing → Type 0 = All (IsBackingOver principals) in
    subst Q (sym (flat_map-append (λ (item : StatementUse). item.backing) first second))
    (All-append (IsBackingOver principals) (all_backing first) (all_backing second) one two)

uses_over : (site : Site) (method : MethodTree) → IsSiteOver site method → (block : BlockTree) →
    All (IsBackingOver site.principals) (all_backing (block_uses site.labelled site.setting block))
uses_over site method is done = All-nil (IsBackingOver site.principals)
uses_over site method is (set_local heading x value rest) =
    block_over site method is (set_local heading x value rest) _ (block_uses site.labelled site.setting rest) refl
    (All-nil (IsBackingOver site.principals)) (uses_over site method is rest)
uses_over site method is (set_field heading field value rest) =
    block_over site method is (set_field heading field value rest) _ (block_uses site.labelled site.setting rest) refl
    (All-nil (IsBackingOver site.principals)) (uses_over site method is rest)
uses_over site method is (set_element heading field index value rest) =
    block_over site method is (set_element heading field index value rest) _
    (block_uses site.labelled site.setting rest) refl (All-nil (IsBackingOver site.principals))
    (uses_over site method is rest)
uses_over site method is (branch heading guard first second rest) =
    let uses : BlockTree → List StatementUse = block_uses site.labelled site.setting in
    let inner = two_over site.principals (uses first) (uses second) (uses_over site method is first)
    (uses_over site method is second) in
    block_over site method is (branch heading guard first second rest) _ ((uses first ++ uses second) ++ uses rest) refl
    inner (two_over site.principals (uses first ++ uses second) (uses rest) inner (uses_over site method is rest))
uses_over site method is (loop heading guard body rest) =
    let uses : BlockTree → List StatementUse = block_uses site.labelled site.setting in
    let inner = uses_over site method is body in
    block_over site method is (loop heading guard body rest) _ (uses body ++ uses rest) refl inner
    (two_over site.principals (uses body) (uses rest) inner (uses_over site method is rest))
uses_over site method is (call heading place called arguments into rest) =
    block_over site method is (call heading place called arguments into rest) _
    (block_uses site.labelled site.setting rest) refl (All-nil (IsBackingOver site.principals))
    (uses_over site method is rest)
uses_over site method is (give_back heading value rest) =
    block_over site method is (give_back heading value rest) _ (block_uses site.labelled site.setting rest) refl
    (All-nil (IsBackingOver site.principals)) (uses_over site method is rest)

inner_over : (site : Site) (method : MethodTree) → IsSiteOver site method → (block : BlockTree) →
    All (IsBackingOver site.principals) (all_backing (inner_uses site block))
inner_over site method is done = All-nil (IsBackingOver site.principals)
inner_over site method is (set_local heading x value rest) = All-nil (IsBackingOver site.principals)
inner_over site method is (set_field heading field value rest) = All-nil (IsBackingOver site.principals)
inner_over site method is (set_element heading field index value rest) = All-nil (IsBackingOver site.principals)
inner_over site method is (branch heading guard first second rest) =
    two_over site.principals (block_uses site.labelled site.setting first)
    (block_uses site.labelled site.setting second) (uses_over site method is first) (uses_over site method is second)
inner_over site method is (loop heading guard body rest) = uses_over site method is body
inner_over site method is (call heading place called arguments into rest) = All-nil (IsBackingOver site.principals)
inner_over site method is (give_back heading value rest) = All-nil (IsBackingOver site.principals)

pub backing_over : (site : Site) (method : MethodTree) → IsSiteOver site method → (block : BlockTree)
    (one : StatementUse) (inside : List StatementUse) →
    block_uses site.labelled site.setting block ≡ one ∷ inside → All (IsBackingOver site.principals) one.backing
backing_over site method is block one inside uses =
    one_over site method is block one inside uses (inner_over site method is block)

-- ---- what is told of fields

abbrev TellsOver : Declared → StatementUse → Type 0
TellsOver principals one = All (IsTellingOver principals) one.tellings

exprs_tell : (principals : Declared) (labelled : Labelled) → IsAllOver principals labelled → (method : MethodTree)
    (here : StmtId) (values : List ExprTree) → AreWritten principals (flat_map written_in values) →
    All (IsTellingOver principals)
    (flat_map (tellings_in (setting_of principals labelled.program method) labelled (pc_of labelled here)) values)
exprs_tell principals labelled over method here values written =
    made_over principals (IsTellingOver principals)
    (tellings_in (setting_of principals labelled.program method) labelled (pc_of labelled here))
    (λ value inner. tells_over principals labelled over method (pc_of labelled here) value (over.pcs here) inner) values
    written

-- the written labels of the only expression of a statement
pub one_written : (principals : Declared) (value : ExprTree) → AreWritten principals (written_in value) →
    AreWritten principals (flat_map written_in (value ∷ []))
one_written principals value written =
    rw (flat_map-cons written_in value []) (All-append (IsLabelOver principals) (written_in value) [] written
    (All-nil (IsLabelOver principals)))

pub two_written : (principals : Declared) (index value : ExprTree) →
    AreWritten principals (written_in index ++ written_in value) →
    AreWritten principals (flat_map written_in (index ∷ value ∷ []))
two_written principals index value written =
    let both = both_of (IsLabelOver principals) (written_in index) (written_in value) written in
    rw (flat_map-cons written_in index (value ∷ [])) (All-append (IsLabelOver principals) (written_in index)
    (flat_map written_in (value ∷ [])) both.0 (one_written principals value both.1))

block_tells : (principals : Declared) (labelled : Labelled) → IsAllOver principals labelled → (method : MethodTree)
    (block : BlockTree) → AreWritten principals (written_in_block block) →
    All (TellsOver principals) (block_uses labelled (setting_of principals labelled.program method) block)
block_tells principals labelled over method done written = All-nil (TellsOver principals)
block_tells principals labelled over method (set_local heading x value rest) written =
    let both = both_of (IsLabelOver principals) (written_in value) (written_in_block rest) written in
    All-cons (TellsOver principals) _ _
    (exprs_tell principals labelled over method heading.id (value ∷ []) (one_written principals value both.0))
    (block_tells principals labelled over method rest both.1)
block_tells principals labelled over method (set_field heading field value rest) written =
    let both = both_of (IsLabelOver principals) (written_in value) (written_in_block rest) written in
    All-cons (TellsOver principals) _ _
    (exprs_tell principals labelled over method heading.id (value ∷ []) (one_written principals value both.0))
    (block_tells principals labelled over method rest both.1)
block_tells principals labelled over method (set_element heading field index value rest) written =
    let both = both_of (IsLabelOver principals) (written_in index ++ written_in value) (written_in_block rest) written in
    All-cons (TellsOver principals) _ _
    (exprs_tell principals labelled over method heading.id (index ∷ value ∷ [])
    (two_written principals index value both.0)) (block_tells principals labelled over method rest both.1)
block_tells principals labelled over method (branch heading guard first second rest) written =
    let P : Label → Type 0 = IsLabelOver principals in
    let Q : StatementUse → Type 0 = TellsOver principals in
    let uses : BlockTree → List StatementUse =
    block_uses labelled (setting_of principals labelled.program method) in
    let outer = both_of P ((written_in guard ++ written_in_block first) ++ written_in_block second)
    (written_in_block rest) written in
    let blocks = both_of P (written_in guard ++ written_in_block first) (written_in_block second) outer.0 in
    let before = both_of P (written_in guard) (written_in_block first) blocks.0 in
    All-cons Q _ ((uses first ++ uses second) ++ uses rest)
    (exprs_tell principals labelled over method heading.id (guard ∷ []) (one_written principals guard before.0))
    (All-append Q (uses first ++ uses second) (uses rest)
    (All-append Q (uses first) (uses second) (block_tells principals labelled over method first before.1)
    (block_tells principals labelled over method second blocks.1))
    (block_tells principals labelled over method rest outer.1))
block_tells principals labelled over method (loop heading guard body rest) written =
    let P : Label → Type 0 = IsLabelOver principals in
    let Q : StatementUse → Type 0 = TellsOver principals in
    let uses : BlockTree → List StatementUse =
    block_uses labelled (setting_of principals labelled.program method) in
    let outer = both_of P (written_in guard ++ written_in_block body) (written_in_block rest) written in
    let before = both_of P (written_in guard) (written_in_block body) outer.0 in
    All-cons Q _ (uses body ++ uses rest)
    (exprs_tell principals labelled over method heading.id (guard ∷ []) (one_written principals guard before.0))
    (All-append Q (uses body) (uses rest) (block_tells principals labelled over method body before.1)
    (block_tells principals labelled over method rest outer.1))
block_tells principals labelled over method (call heading place called arguments into rest) written =
    let both = both_of (IsLabelOver principals) (flat_map written_in arguments) (written_in_block rest) written in
    All-cons (TellsOver principals) _ _
    (exprs_tell principals labelled over method heading.id arguments both.0)
    (block_tells principals labelled over method rest both.1)
block_tells principals labelled over method (give_back heading value rest) written =
    let both = both_of (IsLabelOver principals) (written_in value) (written_in_block rest) written in
    All-cons (TellsOver principals) _ _
    (exprs_tell principals labelled over method heading.id (value ∷ []) (one_written principals value both.0))
    (block_tells principals labelled over method rest both.1)

methods_tell : (principals : Declared) (labelled : Labelled) → IsAllOver principals labelled →
    (methods : List MethodTree) → All (IsMethodOver principals) methods →
    All (TellsOver principals) (flat_map (method_uses principals labelled) methods)
methods_tell principals labelled over [] all = All-nil (TellsOver principals)
methods_tell principals labelled over (method ∷ methods) all =
    let Q : StatementUse → Type 0 = TellsOver principals in
    let R : List StatementUse → Type 0 = All Q in
    let first = All-head (IsMethodOver principals) method methods all in
    subst R (sym (flat_map-cons (method_uses principals labelled) method methods))
    (All-append Q (method_uses principals labelled method) (flat_map (method_uses principals labelled) methods)
    (All-cons Q _ _ (All-nil (IsTellingOver principals))
    (block_tells principals labelled over method method.body first.body))
    (methods_tell principals labelled over methods (All-tail (IsMethodOver principals) method methods all)))

pub told_over : (principals : Declared) (labelled : Labelled) → IsAllOver principals labelled →
    All (IsMethodOver principals) labelled.program.methods → (field : FieldId) →
    All (IsLabelOver principals) (labels_told principals labelled field)
told_over principals labelled over methods field =
    All-map (IsLabelOver principals) (λ telling. telling.label) _
    (All-filter _ (IsTellingOver principals) (program_tellings principals labelled)
    (all_flat (IsTellingOver principals) (λ (one : StatementUse). one.tellings) (statement_uses principals labelled)
    (methods_tell principals labelled over labelled.program.methods methods)))
