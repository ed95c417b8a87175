-- A table by which small worlds release something.
use Rattle.std.specs.Prelude.{ℕ, pos, List, [], ◌∷◌}
use Rattle.host_code.specs.declared.code_expr.Node.{Node}
use Rattle.host_code.specs.declared.code_expr.Node.TheVariants as node
use Rattle.split_rules.specs.Releases.{ReleasesShape}

abbrev operand : ℕ → List Node
operand value = node.Number (pos value) ∷ []

-- The first instruction of host 0 releases 1, the second nothing, and the third 7 and then 8. The first of host 1
-- releases 9.
abbrev pub a_table : ReleasesShape
a_table =
    ((operand 1 ∷ []) ∷ [] ∷ (operand 7 ∷ operand 8 ∷ []) ∷ []) ∷ ((operand 9 ∷ []) ∷ []) ∷ []
