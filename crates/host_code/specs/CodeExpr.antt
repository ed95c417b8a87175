-- Expressions in instructions, in postfix order: the operands of a node stand before it.
use Rattle.std.specs.Prelude.{◌≡◌, ℕ, ◌≤◌, suc, List, [], ◌∷◌, length, Option, Some, None}
use Rattle.std.specs.Option.{option_and_then}
use Rattle.host_code.specs.declared.code_expr.Node.{Node}
use Rattle.host_code.specs.declared.code_expr.Node.TheVariants.{Number, Var, Temp, Not, Negate, Binary}
use Rattle.host_code.specs.declared.code_expr.TheConstants.{MOST_NODES}

-- how many values there are after a node, where there are so many before it; none where it lacks an operand
abbrev pub depth_after_node : Node → ℕ → Option ℕ
depth_after_node (Number n) depth = Some (suc depth)
depth_after_node (Var x) depth = Some (suc depth)
depth_after_node (Temp t) depth = Some (suc depth)
depth_after_node Not (suc depth) = Some (suc depth)
depth_after_node Negate (suc depth) = Some (suc depth)
depth_after_node (Binary op) (suc (suc depth)) = Some (suc depth)
depth_after_node _ _ = None

abbrev pub depth_after : List Node → ℕ → Option ℕ
depth_after [] depth = Some depth
depth_after (node ∷ nodes) depth = option_and_then (depth_after nodes) (depth_after_node node depth)

-- the nodes leave exactly one value, and are few enough
pub record IsExpression (nodes : List Node) : Type 0 where
  pub few : length nodes ≤ MOST_NODES
  pub leaves_one : depth_after nodes 0 ≡ Some 1
