-- The value of an expression, where variables have given values.
use Rattle.std.specs.Prelude.{ℕ, ℤ, pos, List}
use Rattle.jif_tree.specs.declared.program.Expr.{Expr}
use Rattle.jif_tree.specs.declared.program.Expr as expr
use Rattle.jif_tree.specs.Operators.{binary_value, negation, inversion}
use Rattle.jif_tree.specs.Store.{element_at, row_of}

abbrev pub value_with : (ℕ → ℤ) → List (List ℤ) → Expr → ℤ
value_with values store (expr.Number n) = n
value_with values store (expr.Local x) = values x.0
value_with values store (expr.Scalar field) = element_at (row_of store field.0) (pos 0)
value_with values store (expr.Element' field p index) =
    element_at (row_of store field.0) (value_with values store index)
value_with values store (expr.Not' p operand) = inversion (value_with values store operand)
value_with values store (expr.Negate' p operand) = negation (value_with values store operand)
value_with values store (expr.Binary' operator p left q right) =
    binary_value operator (value_with values store left) (value_with values store right)
value_with values store (expr.Declassify' p inner label) = value_with values store inner
value_with values store (expr.Endorse' p inner label) = value_with values store inner
