-- A value that may be seen is the same in two threads that hold the same where it may be seen.
use Rattle.std.proofs.Common.{◌≡◌, ◌∙◌, ℕ, ◌+◌, List, [], ◌∷◌, ◌++◌, refl, ap, sym, append_assoc, append-nil}
use Rattle.std.specs.Prelude.{ℤ}
use Rattle.js_base.specs.declared.ids.VarId.{VarId}
use Rattle.label_lattice.specs.declared.label.Label.{Label}
use Rattle.label_lattice.specs.Lattice.{join_of}
use Rattle.jif_tree.specs.LabelRules.{crossed}
use Rattle.jif_tree.specs.Operators.{binary_value, negation, inversion}
use Rattle.jif_tree.specs.Trees.{ExprTree, number, local, scalar, element, inverted, negated, binary, declassified}
use Rattle.jif_tree.specs.Trees.{endorsed}
use Rattle.host_code.specs.declared.code_expr.Node.{Node}
use Rattle.host_code.specs.declared.code_expr.Node.TheVariants as node
use Rattle.host_core.specs.Values.{temporary_at, values_after, first_of_values, value_of_nodes}
use Rattle.split_rules.specs.Expressions.{reads_in, nodes_of}
use Rattle.split_rules.proofs.SeenLabels.{flows_first, flows_second}
use Rattle.split_shades.specs.Basis.{value_label}
use Rattle.split_shades.proofs.BasisLabels.{uncrossed_flows}
use Rattle.seen_world.specs.Eyes.{Eyes, AreEyes}
use Rattle.agreement.specs.Values.{IsValueSeen, HoldAlike}

-- ---- the value of a tree

abbrev tree_value : (VarId → ℤ) → List ℤ → ℕ → ExprTree → ℤ
tree_value variables temps first (number value) = value
tree_value variables temps first (local x) = variables x
tree_value variables temps first (scalar field) = temporary_at temps first
tree_value variables temps first (element field index) = temporary_at temps (first + reads_in index)
tree_value variables temps first (inverted operand) = inversion (tree_value variables temps first operand)
tree_value variables temps first (negated operand) = negation (tree_value variables temps first operand)
tree_value variables temps first (binary operator left right) =
    binary_value operator (tree_value variables temps first left)
    (tree_value variables temps (first + reads_in left) right)
tree_value variables temps first (declassified operand label) = tree_value variables temps first operand
tree_value variables temps first (endorsed operand label) = tree_value variables temps first operand

-- its nodes leave it above all values before
nodes_leave : (variables : VarId → ℤ) (temps : List ℤ) (e : ExprTree) (first : ℕ) (more : List Node)
    (values : List ℤ) →
    values_after variables temps (nodes_of first e ++ more) values
    ≡ values_after variables temps more (tree_value variables temps first e ∷ values)
nodes_leave variables temps (number value) first more values = refl
nodes_leave variables temps (local x) first more values = refl
nodes_leave variables temps (scalar field) first more values = refl
nodes_leave variables temps (element field index) first more values = refl
nodes_leave variables temps (inverted operand) first more values =
    ap (λ nodes. values_after variables temps nodes values)
    (append_assoc (nodes_of first operand) (node.Not ∷ []) more)
    ∙ nodes_leave variables temps operand first (node.Not ∷ more) values
nodes_leave variables temps (negated operand) first more values =
    ap (λ nodes. values_after variables temps nodes values)
    (append_assoc (nodes_of first operand) (node.Negate ∷ []) more)
    ∙ nodes_leave variables temps operand first (node.Negate ∷ more) values
nodes_leave variables temps (binary operator left right) first more values =
    let ours = nodes_of first left in
    let theirs = nodes_of (first + reads_in left) right in
    ap (λ nodes. values_after variables temps nodes values)
    (append_assoc (ours ++ theirs) (node.Binary operator ∷ []) more
    ∙ append_assoc ours theirs (node.Binary operator ∷ more))
    ∙ nodes_leave variables temps left first (theirs ++ (node.Binary operator ∷ more)) values
    ∙ nodes_leave variables temps right (first + reads_in left) (node.Binary operator ∷ more)
    (tree_value variables temps first left ∷ values)
nodes_leave variables temps (declassified operand label) first more values =
    nodes_leave variables temps operand first more values
nodes_leave variables temps (endorsed operand label) first more values =
    nodes_leave variables temps operand first more values

nodes_value : (variables : VarId → ℤ) (temps : List ℤ) (e : ExprTree) (first : ℕ) →
    value_of_nodes variables temps (nodes_of first e) ≡ tree_value variables temps first e
nodes_value variables temps e first =
    ap (λ nodes. first_of_values (values_after variables temps nodes [])) (sym (append-nil (nodes_of first e)))
    ∙ ap first_of_values (nodes_leave variables temps e first [] [])

-- ---- two threads

tree_same : (eyes : Eyes) → AreEyes eyes → (pc : Label) (variables others : VarId → ℤ) (temps held : List ℤ)
    (first : ℕ) (e : ExprTree) → HoldAlike eyes pc variables others temps held first e → IsValueSeen eyes pc e →
    tree_value variables temps first e ≡ tree_value others held first e
tree_same eyes are pc variables others temps held first (number value) alike seen = refl
tree_same eyes are pc variables others temps held first (local x) alike seen = alike seen
tree_same eyes are pc variables others temps held first (scalar field) alike seen = alike seen
tree_same eyes are pc variables others temps held first (element field index) alike seen = alike seen
tree_same eyes are pc variables others temps held first (inverted operand) alike seen =
    ap inversion (tree_same eyes are pc variables others temps held first operand alike seen)
tree_same eyes are pc variables others temps held first (negated operand) alike seen =
    ap negation (tree_same eyes are pc variables others temps held first operand alike seen)
tree_same eyes are pc variables others temps held first (binary operator left right) alike seen =
    let one : Label = value_label eyes.scene.basis pc left in
    let two : Label = value_label eyes.scene.basis pc right in
    ap (λ value. binary_value operator value (tree_value variables temps (first + reads_in left) right))
    (tree_same eyes are pc variables others temps held first left alike.0
    (are.below one (join_of one two) (flows_first one two) seen))
    ∙ ap (binary_value operator (tree_value others held first left))
    (tree_same eyes are pc variables others temps held (first + reads_in left) right alike.1
    (are.below two (join_of one two) (flows_second one two) seen))
tree_same eyes are pc variables others temps held first (declassified operand label) alike seen =
    sym (nodes_value variables temps operand first) ∙ alike ∙ nodes_value others held operand first
tree_same eyes are pc variables others temps held first (endorsed operand label) alike seen =
    let own : Label = value_label eyes.scene.basis pc operand in
    let both : Label = crossed own (join_of label pc) in
    tree_same eyes are pc variables others temps held first operand alike
    (are.below own both
    (uncrossed_flows own (join_of label pc) both (λ owner reader owner_in reader_in forbids. forbids)) seen)

pub value_same : (eyes : Eyes) (pc : Label) (variables others : VarId → ℤ) (temps held : List ℤ) (first : ℕ)
    (value : ExprTree) → AreEyes eyes → HoldAlike eyes pc variables others temps held first value →
    IsValueSeen eyes pc value →
    value_of_nodes variables temps (nodes_of first value) ≡ value_of_nodes others held (nodes_of first value)
value_same eyes pc variables others temps held first value are alike seen =
    nodes_value variables temps value first
    ∙ tree_same eyes are pc variables others temps held first value alike seen
    ∙ sym (nodes_value others held value first)
