-- What two threads hold alike, as far as it may be seen.
use Rattle.std.specs.Prelude.{◌≡◌, ℕ, ◌+◌, ℤ, true, List, ⊤}
use Rattle.js_base.specs.declared.ids.VarId.{VarId}
use Rattle.label_lattice.specs.declared.label.Label.{Label}
use Rattle.jif_tree.specs.Trees.{ExprTree, number, local, scalar, element, inverted, negated, binary, declassified}
use Rattle.jif_tree.specs.Trees.{endorsed}
use Rattle.host_core.specs.Values.{temporary_at, value_of_nodes}
use Rattle.split_rules.specs.Expressions.{reads_in, nodes_of}
use Rattle.split_shades.specs.Basis.{value_label}
use Rattle.seen_world.specs.Eyes.{Eyes}

-- some misbehaving host may see what a value tells
abbrev pub IsValueSeen : Eyes → Label → ExprTree → Type 0
IsValueSeen eyes pc value = eyes.sees (value_label eyes.scene.basis pc value) ≡ true

-- The variables and the temporaries of two threads are the same where a value uses them and they may be seen, and so
-- are
-- the operands that it releases. Its first read left the temporary of this number.
abbrev pub HoldAlike : Eyes → Label → (VarId → ℤ) → (VarId → ℤ) → List ℤ → List ℤ → ℕ → ExprTree → Type 0
HoldAlike eyes pc variables others temps held first (number value) = ⊤
HoldAlike eyes pc variables others temps held first (local x) = IsValueSeen eyes pc (local x) → variables x ≡ others x
HoldAlike eyes pc variables others temps held first (scalar field) =
    IsValueSeen eyes pc (scalar field) → temporary_at temps first ≡ temporary_at held first
HoldAlike eyes pc variables others temps held first (element field index) =
    IsValueSeen eyes pc (element field index) →
    temporary_at temps (first + reads_in index) ≡ temporary_at held (first + reads_in index)
HoldAlike eyes pc variables others temps held first (inverted operand) =
    HoldAlike eyes pc variables others temps held first operand
HoldAlike eyes pc variables others temps held first (negated operand) =
    HoldAlike eyes pc variables others temps held first operand
HoldAlike eyes pc variables others temps held first (binary operator left right) =
    HoldAlike eyes pc variables others temps held first left
    × HoldAlike eyes pc variables others temps held (first + reads_in left) right
HoldAlike eyes pc variables others temps held first (declassified operand label) =
    value_of_nodes variables temps (nodes_of first operand) ≡ value_of_nodes others held (nodes_of first operand)
HoldAlike eyes pc variables others temps held first (endorsed operand label) =
    HoldAlike eyes pc variables others temps held first operand
