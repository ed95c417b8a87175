-- The value of an expression in a thread. Its nodes are gone through in order, over a list of values of which the first
-- is the one that was made last.
use Rattle.std.specs.Prelude.{ℕ, ℤ, pos, List, [], ◌∷◌, slice_get, unwrap_or}
use Rattle.js_base.specs.declared.ids.VarId.{VarId}
use Rattle.js_base.specs.declared.binary_operator.BinOp.{BinOp}
use Rattle.jif_tree.specs.Operators.{binary_value, negation, inversion}
use Rattle.host_code.specs.declared.code_expr.Node.{Node}
use Rattle.host_code.specs.declared.code_expr.Node.TheVariants as node

-- a temporary, 0 where the thread has none of the number
abbrev pub temporary_at : List ℤ → ℕ → ℤ
temporary_at temporaries number = unwrap_or (slice_get temporaries number) (pos 0)

-- what a binary operator leaves of the values
abbrev pub after_binary : BinOp → List ℤ → List ℤ
after_binary op (right ∷ left ∷ values) = binary_value op left right ∷ values
after_binary op values = values

-- what a node leaves of the values before it, where the variables and temporaries are these; nothing changes where it
-- lacks an operand, which no node of an expression does
abbrev pub values_after_node : (VarId → ℤ) → List ℤ → Node → List ℤ → List ℤ
values_after_node variables temporaries (node.Number n) values = n ∷ values
values_after_node variables temporaries (node.Var x) values = variables x ∷ values
values_after_node variables temporaries (node.Temp t) values = temporary_at temporaries t ∷ values
values_after_node variables temporaries node.Not (value ∷ values) = inversion value ∷ values
values_after_node variables temporaries node.Negate (value ∷ values) = negation value ∷ values
values_after_node variables temporaries (node.Binary op) values = after_binary op values
values_after_node variables temporaries _ values = values

abbrev pub values_after : (VarId → ℤ) → List ℤ → List Node → List ℤ → List ℤ
values_after variables temporaries [] values = values
values_after variables temporaries (node ∷ nodes) values =
    values_after variables temporaries nodes (values_after_node variables temporaries node values)

-- the first of some values, 0 where there is none
abbrev pub first_of_values : List ℤ → ℤ
first_of_values [] = pos 0
first_of_values (value ∷ values) = value

abbrev pub value_of_nodes : (VarId → ℤ) → List ℤ → List Node → ℤ
value_of_nodes variables temporaries nodes = first_of_values (values_after variables temporaries nodes [])
