-- What the limits of programs count: nodes of expressions, constructs that are open at a place, variables of a method.
use Rattle.std.specs.Prelude.{ℕ, ◌+◌, ◌<◌, ◌==◌, List, [], ◌∷◌, ◌++◌, map, sum, Option, Some, None, ⊤}
use Rattle.std.specs.List.{filter, AllByRecursion}
use Rattle.js_base.specs.declared.limits.TheConstants.{NESTING}
use Rattle.js_base.specs.declared.ids.VarId.{VarId}
use Rattle.jif_tree.specs.Trees.{ExprTree, number, local, scalar, element, inverted, negated, binary, declassified}
use Rattle.jif_tree.specs.Trees.{endorsed, BlockTree, done, set_local, set_field, set_element, branch, loop}
use Rattle.jif_tree.specs.Trees.{call, give_back, VarTree, ProgramTree}

abbrev pub expr_nodes : ExprTree → ℕ
expr_nodes (number value) = 1
expr_nodes (local x) = 1
expr_nodes (scalar field) = 1
expr_nodes (element field index) = 1 + expr_nodes index
expr_nodes (inverted operand) = 1 + expr_nodes operand
expr_nodes (negated operand) = 1 + expr_nodes operand
expr_nodes (binary operator left right) = 1 + (expr_nodes left + expr_nodes right)
expr_nodes (declassified operand label) = 1 + expr_nodes operand
expr_nodes (endorsed operand label) = 1 + expr_nodes operand

-- for each statement of a block, and of the blocks inside it, the nodes of its own expressions
abbrev pub block_nodes : BlockTree → List ℕ
block_nodes done = []
block_nodes (set_local heading variable value rest) = expr_nodes value ∷ block_nodes rest
block_nodes (set_field heading field value rest) = expr_nodes value ∷ block_nodes rest
block_nodes (set_element heading field index value rest) = (expr_nodes index + expr_nodes value) ∷ block_nodes rest
block_nodes (branch heading guard first second rest) =
    expr_nodes guard ∷ block_nodes first ++ block_nodes second ++ block_nodes rest
block_nodes (loop heading guard body rest) = expr_nodes guard ∷ block_nodes body ++ block_nodes rest
block_nodes (call heading site method arguments into rest) = sum (map expr_nodes arguments) ∷ block_nodes rest
block_nodes (give_back heading value rest) = expr_nodes value ∷ block_nodes rest

-- ---- constructs that are open at a place, with so many around it

-- Index brackets, signs before an operand, `declassify` and `endorse`. Parentheses of the text leave nothing in a tree.
abbrev pub IsExprNested : ℕ → ExprTree → Type 0
IsExprNested around (number value) = ⊤
IsExprNested around (local x) = ⊤
IsExprNested around (scalar field) = ⊤
IsExprNested around (element field index) = (around < NESTING) × IsExprNested (around + 1) index
IsExprNested around (inverted operand) = (around < NESTING) × IsExprNested (around + 1) operand
IsExprNested around (negated operand) = (around < NESTING) × IsExprNested (around + 1) operand
IsExprNested around (binary operator left right) = IsExprNested around left × IsExprNested around right
IsExprNested around (declassified operand label) = (around < NESTING) × IsExprNested (around + 1) operand
IsExprNested around (endorsed operand label) = (around < NESTING) × IsExprNested (around + 1) operand

-- The blocks of statements too. The index bracket of an assignment belongs to its statement, and opens nothing.
abbrev pub IsBlockNested : ℕ → BlockTree → Type 0
IsBlockNested around done = ⊤
IsBlockNested around (set_local heading variable value rest) = IsExprNested around value × IsBlockNested around rest
IsBlockNested around (set_field heading field value rest) = IsExprNested around value × IsBlockNested around rest
IsBlockNested around (set_element heading field index value rest) =
    IsExprNested around index × IsExprNested around value × IsBlockNested around rest
IsBlockNested around (branch heading guard first second rest) =
    IsExprNested around guard × (around < NESTING) × IsBlockNested (around + 1) first
    × IsBlockNested (around + 1) second × IsBlockNested around rest
IsBlockNested around (loop heading guard body rest) =
    IsExprNested around guard × (around < NESTING) × IsBlockNested (around + 1) body × IsBlockNested around rest
IsBlockNested around (call heading site method arguments into rest) =
    AllByRecursion (IsExprNested around) arguments × IsBlockNested around rest
IsBlockNested around (give_back heading value rest) = IsExprNested around value × IsBlockNested around rest

-- ---- the variables of a method

abbrev pub variables_in : ProgramTree → ℕ → List VarTree
variables_in program method = filter (λ variable. variable.method.0 == method) program.vars

abbrev pub results_in : Option VarId → ℕ
results_in None = 0
results_in (Some result) = 1
