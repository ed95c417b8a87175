-- What flows where by the rules of labels.
use Rattle.std.proofs.Common.{◌≡◌, refl, ℕ, zero, suc, List, [], ◌∷◌, ◌++◌}
use Rattle.std.specs.Prelude.{All, Option, Some, None, unwrap_or, slice_get, slice_set}
use Rattle.std.specs.List.{flat_map}
use Rattle.std.proofs.lemmas.List.Elements.{All-append, All-nil, All-cons, All-head, All-tail, All-weaker}
use Rattle.js_base.specs.declared.ids.VarId.{VarId}
use Rattle.principals.specs.ActsFor.{Declared}
use Rattle.label_lattice.specs.declared.label.Label.{Label}
use Rattle.label_lattice.specs.Label.{Flows}
use Rattle.label_lattice.specs.Lattice.{empty_label, bottom_of, join_of, meet_of}
use Rattle.label_lattice.specs.Over.{IsLabelOver}
use Rattle.jif_tree.specs.Trees.{ExprTree, number, local, scalar, element, inverted, negated, binary, declassified}
use Rattle.jif_tree.specs.Trees.{endorsed, BlockTree, done, set_local, set_field, set_element, branch, loop}
use Rattle.jif_tree.specs.Trees.{call, give_back, Heading}
use Rattle.jif_tree.specs.LabelRules.{MethodSetting, VariableLabels, StatementLabels, expr_label, labels_after}
use Rattle.jif_tree.specs.LabelRules.{block_labels}
use Rattle.jif_tree.specs.LabelRules.{variable_label, labels_after_assignment, guarded, part_labels, expr_constraints}
use Rattle.jif_tree.specs.WrittenLabels.{written_in, written_in_block}
use Rattle.label_check.specs.RuleLaws.{AreNamedOver, read_in}

-- the laws of labels that are needed here
pub record LabelOrder (principals : Declared) : Type 0 where
  pub same : (label : Label) → Flows label label
  pub on : (first second third : Label) → Flows first second → Flows second third → Flows first third
  pub above : (first second : Label) → IsLabelOver principals first → IsLabelOver principals second →
      Flows first (join_of first second) × Flows second (join_of first second)
  pub empty : IsLabelOver principals empty_label
  pub bottom : IsLabelOver principals (bottom_of principals)
  pub join : (first second : Label) → IsLabelOver principals first → IsLabelOver principals second →
      IsLabelOver principals (join_of first second)
  pub meet : (first second : Label) → IsLabelOver principals first → IsLabelOver principals second →
      IsLabelOver principals (meet_of first second)

-- ---- parts of lists

all_left : {X : Type 0} (P : X → Type 0) (xs ys : List X) → All P (xs ++ ys) → All P xs
all_left P [] ys all = All-nil P
all_left P (x ∷ xs) ys all =
    All-cons P x xs (All-head P x (xs ++ ys) all) (all_left P xs ys (All-tail P x (xs ++ ys) all))

all_right : {X : Type 0} (P : X → Type 0) (xs ys : List X) → All P (xs ++ ys) → All P ys
all_right P [] ys all = all
all_right P (x ∷ xs) ys all = all_right P xs ys (All-tail P x (xs ++ ys) all)

-- ---- labels over the declared principals

-- the label at a place
abbrev label_at : VariableLabels → ℕ → Label
label_at labels place = unwrap_or (unwrap_or (slice_get labels place) None) empty_label

set_over : (P : Label → Type 0) → P empty_label → (labels : VariableLabels) (label : Label) → P label →
    ((place : ℕ) → P (label_at labels place)) → (place other : ℕ) →
    P (label_at (slice_set labels place (Some label)) other)
set_over P empty [] label holds all place other = empty
set_over P empty (first ∷ labels) label holds all zero zero = holds
set_over P empty (first ∷ labels) label holds all zero (suc other) = all (suc other)
set_over P empty (first ∷ labels) label holds all (suc place) zero = all zero
set_over P empty (first ∷ labels) label holds all (suc place) (suc other) =
    set_over P empty labels label holds (λ next. all (suc next)) place other

assigned_over : (P : Label → Type 0) → P empty_label → (labels : VariableLabels) (x : VarId) (label : Label) → P label →
    ((place : ℕ) → P (label_at labels place)) → (found : Option (Option Label)) → slice_get labels x.0 ≡ found →
    (place : ℕ) → P (label_at (labels_after_assignment labels x label) place)
assigned_over P empty labels x label holds all None is place = rw is (all place)
assigned_over P empty labels x label holds all (Some None) is place =
    rw is (set_over P empty labels label holds all x.0 place)
assigned_over P empty labels x label holds all (Some (Some declared)) is place = rw is (all place)

pub expr_over : {setting : MethodSetting} (order : LabelOrder setting.principals) (pc : Label) {labels : VariableLabels}
    (expr : ExprTree) → IsLabelOver setting.principals pc → AreNamedOver setting labels →
    All (IsLabelOver setting.principals) (written_in expr) →
    IsLabelOver setting.principals (expr_label setting pc labels expr)
expr_over order pc (number value) under named written = order.bottom
expr_over order pc (local x) under named written = named.variables x
expr_over order pc (scalar field) under named written = named.fields field
expr_over order pc (element field index) under named written =
    order.join _ _ (named.fields field) (expr_over order pc index under named written)
expr_over order pc (inverted operand) under named written = expr_over order pc operand under named written
expr_over order pc (negated operand) under named written = expr_over order pc operand under named written
expr_over {setting} order pc (binary operator left right) under named written =
    order.join _ _
    (expr_over order pc left under named
    (all_left (IsLabelOver setting.principals) (written_in left) (written_in right) written))
    (expr_over order pc right under named
    (all_right (IsLabelOver setting.principals) (written_in left) (written_in right) written))
expr_over {setting} order pc (declassified operand label) under named written =
    let P : Label → Type 0 = IsLabelOver setting.principals in
    order.meet _ _
    (order.join _ _ (order.join _ _
    (All-head P label [] (all_right P (written_in operand) (label ∷ []) written)) under) order.empty)
    (expr_over order pc operand under named (all_left P (written_in operand) (label ∷ []) written))
expr_over {setting} order pc (endorsed operand label) under named written =
    let P : Label → Type 0 = IsLabelOver setting.principals in
    order.meet _ _
    (order.join _ _ (expr_over order pc operand under named (all_left P (written_in operand) (label ∷ []) written))
    order.empty)
    (order.join _ _ (All-head P label [] (all_right P (written_in operand) (label ∷ []) written)) under)

-- ---- what is read flows to the label of the expression

pub read_flows : {setting : MethodSetting} (order : LabelOrder setting.principals)
    (pc : Label) {labels : VariableLabels}
    (expr : ExprTree) → IsLabelOver setting.principals pc → AreNamedOver setting labels →
    All (IsLabelOver setting.principals) (written_in expr) →
    All (λ label. Flows label (expr_label setting pc labels expr)) (read_in setting labels expr)
read_flows {setting} order pc {labels} (number value) under named written =
    All-nil (λ label. Flows label (bottom_of setting.principals))
read_flows {setting} order pc {labels} (local x) under named written =
    All-cons (λ label. Flows label (variable_label labels x)) (variable_label labels x) [] (order.same _)
    (All-nil (λ label. Flows label (variable_label labels x)))
read_flows {setting} order pc {labels} (scalar field) under named written =
    let own = expr_label setting pc labels (scalar field) in
    All-cons (λ label. Flows label own) own [] (order.same _) (All-nil (λ label. Flows label own))
read_flows {setting} order pc {labels} (element field index) under named written =
    let own = expr_label setting pc labels (element field index) in
    let above = order.above (expr_label setting pc labels (scalar field)) (expr_label setting pc labels index)
    (named.fields field) (expr_over order pc index under named written) in
    All-cons (λ label. Flows label own) (expr_label setting pc labels (scalar field)) (read_in setting labels index)
    above.0
    (All-weaker (λ label. Flows label (expr_label setting pc labels index)) (λ label. Flows label own)
    (λ label flows. order.on _ _ _ flows above.1) (read_in setting labels index)
    (read_flows order pc index under named written))
read_flows order pc (inverted operand) under named written = read_flows order pc operand under named written
read_flows order pc (negated operand) under named written = read_flows order pc operand under named written
read_flows {setting} order pc {labels} (binary operator left right) under named written =
    let P : Label → Type 0 = IsLabelOver setting.principals in
    let own = expr_label setting pc labels (binary operator left right) in
    let first = all_left P (written_in left) (written_in right) written in
    let second = all_right P (written_in left) (written_in right) written in
    let above = order.above (expr_label setting pc labels left) (expr_label setting pc labels right)
    (expr_over order pc left under named first) (expr_over order pc right under named second) in
    All-append (λ label. Flows label own) (read_in setting labels left) (read_in setting labels right)
    (All-weaker (λ label. Flows label (expr_label setting pc labels left)) (λ label. Flows label own)
    (λ label flows. order.on _ _ _ flows above.0) (read_in setting labels left)
    (read_flows order pc left under named first))
    (All-weaker (λ label. Flows label (expr_label setting pc labels right)) (λ label. Flows label own)
    (λ label flows. order.on _ _ _ flows above.1) (read_in setting labels right)
    (read_flows order pc right under named second))
read_flows {setting} order pc {labels} (declassified operand label) under named written =
    All-nil (λ other. Flows other (expr_label setting pc labels (declassified operand label)))
read_flows {setting} order pc {labels} (endorsed operand label) under named written =
    All-nil (λ other. Flows other (expr_label setting pc labels (endorsed operand label)))

-- ---- the labels of variables behind a block

named_after_assignment : {setting : MethodSetting} (order : LabelOrder setting.principals) {labels : VariableLabels}
    (x : VarId) (label : Label) → IsLabelOver setting.principals label → AreNamedOver setting labels →
    AreNamedOver setting (labels_after_assignment labels x label)
named_after_assignment {setting} order {labels} x label over named = record {
  declared = named.declared;
  fields = named.fields;
  variables = λ y. assigned_over (IsLabelOver setting.principals) order.empty labels x label over
      (λ place. named.variables (record { 0 = place })) (slice_get labels x.0) refl y.0;
}

inside_over : {setting : MethodSetting} (order : LabelOrder setting.principals) (pc : Label) {labels : VariableLabels}
    (guard : ExprTree) → IsLabelOver setting.principals pc → AreNamedOver setting labels →
    All (IsLabelOver setting.principals) (written_in guard) →
    IsLabelOver setting.principals (guarded setting pc labels guard)
inside_over order pc guard under named written = order.join _ _ under (expr_over order pc guard under named written)

named_after : {setting : MethodSetting} (order : LabelOrder setting.principals) (block : BlockTree) (pc : Label)
    {labels : VariableLabels} → IsLabelOver setting.principals pc → AreNamedOver setting labels →
    All (IsLabelOver setting.principals) (written_in_block block) →
    AreNamedOver setting (labels_after setting pc labels block)
named_after order done pc under named written = named
named_after {setting} order (set_local heading x value rest) pc under named written =
    let P : Label → Type 0 = IsLabelOver setting.principals in
    named_after order rest pc under
    (named_after_assignment order x _ (order.join _ _ (expr_over order pc value under named
    (all_left P (written_in value) (written_in_block rest) written)) under) named)
    (all_right P (written_in value) (written_in_block rest) written)
named_after {setting} order (set_field heading field value rest) pc under named written =
    named_after order rest pc under named
    (all_right (IsLabelOver setting.principals) (written_in value) (written_in_block rest) written)
named_after {setting} order (set_element heading field index value rest) pc under named written =
    named_after order rest pc under named
    (all_right (IsLabelOver setting.principals) (written_in index ++ written_in value) (written_in_block rest) written)
named_after {setting} order (branch heading guard first second rest) pc under named written =
    let P : Label → Type 0 = IsLabelOver setting.principals in
    let blocks = all_left P ((written_in guard ++ written_in_block first) ++ written_in_block second)
    (written_in_block rest) written in
    let before = all_left P (written_in guard ++ written_in_block first) (written_in_block second) blocks in
    let inside = inside_over order pc guard under named
    (all_left P (written_in guard) (written_in_block first) before) in
    named_after order rest pc under
    (named_after order second _ inside
    (named_after order first _ inside named (all_right P (written_in guard) (written_in_block first) before))
    (all_right P (written_in guard ++ written_in_block first) (written_in_block second) blocks))
    (all_right P ((written_in guard ++ written_in_block first) ++ written_in_block second) (written_in_block rest)
    written)
named_after {setting} order (loop heading guard body rest) pc under named written =
    let P : Label → Type 0 = IsLabelOver setting.principals in
    let before = all_left P (written_in guard ++ written_in_block body) (written_in_block rest) written in
    let inside = inside_over order pc guard under named (all_left P (written_in guard)
    (written_in_block body) before) in
    named_after order rest pc under
    (named_after order body _ inside named (all_right P (written_in guard) (written_in_block body) before))
    (all_right P (written_in guard ++ written_in_block body) (written_in_block rest) written)
named_after {setting} order (call heading site method arguments into rest) pc under named written =
    named_after order rest pc under named
    (all_right (IsLabelOver setting.principals) (flat_map written_in arguments) (written_in_block rest) written)
named_after {setting} order (give_back heading value rest) pc under named written =
    named_after order rest pc under named
    (all_right (IsLabelOver setting.principals) (written_in value) (written_in_block rest) written)

-- ---- the program label flows to that of each statement

-- the program label of the statement is above this one
abbrev pub IsAbove : Label → StatementLabels → Type 0
IsAbove pc one = Flows pc one.pc

-- how a branch and a loop are checked, but for the blocks inside
abbrev head_above : MethodSetting → Label → VariableLabels → Heading → ExprTree → StatementLabels
head_above setting pc labels heading guard = record {
  statement = heading.id;
  pc = pc;
  parts = part_labels setting pc labels guard;
  constraints = expr_constraints setting pc labels guard;
}

abbrev loop_above : MethodSetting → Label → VariableLabels → Heading → ExprTree → StatementLabels
loop_above setting pc labels heading guard =
    let inside = guarded setting pc labels guard in
    record {
      statement = heading.id;
      pc = inside;
      parts = part_labels setting inside labels guard;
      constraints = expr_constraints setting pc labels guard ++ expr_constraints setting inside labels guard;
    }

all_above : {principals : Declared} (order : LabelOrder principals) (pc inside : Label) → Flows pc inside →
    (statements : List StatementLabels) → All (IsAbove inside) statements → All (IsAbove pc) statements
all_above order pc inside flows statements all =
    All-weaker (IsAbove inside) (IsAbove pc) (λ one above. order.on _ _ _ flows above) statements all

pub block_above : {setting : MethodSetting} (order : LabelOrder setting.principals) (block : BlockTree) (pc : Label)
    {labels : VariableLabels} → IsLabelOver setting.principals pc → AreNamedOver setting labels →
    All (IsLabelOver setting.principals) (written_in_block block) →
    All (IsAbove pc) (block_labels setting pc labels block)
block_above order done pc under named written = All-nil (IsAbove pc)
block_above {setting} order (set_local heading x value rest) pc {labels} under named written =
    let P : Label → Type 0 = IsLabelOver setting.principals in
    All-cons (IsAbove pc) _ _ (order.same pc)
    (block_above order rest pc under
    (named_after_assignment order x _ (order.join _ _ (expr_over order pc value under named
    (all_left P (written_in value) (written_in_block rest) written)) under) named)
    (all_right P (written_in value) (written_in_block rest) written))
block_above {setting} order (set_field heading field value rest) pc under named written =
    All-cons (IsAbove pc) _ _ (order.same pc) (block_above order rest pc under named
    (all_right (IsLabelOver setting.principals) (written_in value) (written_in_block rest) written))
block_above {setting} order (set_element heading field index value rest) pc under named written =
    All-cons (IsAbove pc) _ _ (order.same pc) (block_above order rest pc under named
    (all_right (IsLabelOver setting.principals) (written_in index ++ written_in value) (written_in_block rest) written))
block_above {setting} order (branch heading guard first second rest) pc {labels} under named written =
    let P : Label → Type 0 = IsLabelOver setting.principals in
    let blocks = all_left P ((written_in guard ++ written_in_block first) ++ written_in_block second)
    (written_in_block rest) written in
    let before = all_left P (written_in guard ++ written_in_block first) (written_in_block second) blocks in
    let of_guard = all_left P (written_in guard) (written_in_block first) before in
    let of_first = all_right P (written_in guard) (written_in_block first) before in
    let of_second = all_right P (written_in guard ++ written_in_block first) (written_in_block second) blocks in
    let label = guarded setting pc labels guard in
    let inside = inside_over order pc guard under named of_guard in
    let up = (order.above pc (expr_label setting pc labels guard) under
    (expr_over order pc guard under named of_guard)).0 in
    let between = named_after order first label inside named of_first in
    let middle = labels_after setting label labels first in
    let after = labels_after setting label middle second in
    let one : StatementLabels = head_above setting pc labels heading guard in
    All-append (IsAbove pc) (one ∷ block_labels setting label labels first ++ block_labels setting label middle second)
    (block_labels setting pc after rest)
    (All-append (IsAbove pc) (one ∷ block_labels setting label labels first) (block_labels setting label middle second)
    (All-cons (IsAbove pc) one (block_labels setting label labels first) (order.same pc)
    (all_above order pc label up (block_labels setting label labels first)
    (block_above order first label inside named of_first)))
    (all_above order pc label up (block_labels setting label middle second)
    (block_above order second label inside between of_second)))
    (block_above order rest pc under (named_after order second label inside between of_second)
    (all_right P ((written_in guard ++ written_in_block first) ++ written_in_block second) (written_in_block rest)
    written))
block_above {setting} order (loop heading guard body rest) pc {labels} under named written =
    let P : Label → Type 0 = IsLabelOver setting.principals in
    let before = all_left P (written_in guard ++ written_in_block body) (written_in_block rest) written in
    let of_guard = all_left P (written_in guard) (written_in_block body) before in
    let of_body = all_right P (written_in guard) (written_in_block body) before in
    let label = guarded setting pc labels guard in
    let inside = inside_over order pc guard under named of_guard in
    let up = (order.above pc (expr_label setting pc labels guard) under
    (expr_over order pc guard under named of_guard)).0 in
    let after = labels_after setting label labels body in
    let one : StatementLabels = loop_above setting pc labels heading guard in
    All-append (IsAbove pc) (one ∷ block_labels setting label labels body) (block_labels setting pc after rest)
    (All-cons (IsAbove pc) one (block_labels setting label labels body) up
    (all_above order pc label up (block_labels setting label labels body)
    (block_above order body label inside named of_body)))
    (block_above order rest pc under (named_after order body label inside named of_body)
    (all_right P (written_in guard ++ written_in_block body) (written_in_block rest) written))
block_above {setting} order (call heading site method arguments into rest) pc under named written =
    All-cons (IsAbove pc) _ _ (order.same pc) (block_above order rest pc under named
    (all_right (IsLabelOver setting.principals) (flat_map written_in arguments) (written_in_block rest) written))
block_above {setting} order (give_back heading value rest) pc under named written =
    All-cons (IsAbove pc) _ _ (order.same pc) (block_above order rest pc under named
    (all_right (IsLabelOver setting.principals) (written_in value) (written_in_block rest) written))
