-- What the code of an expression has: no more nodes than the expression, which leave one value.
use Rattle.std.proofs.Common.{◌≡◌, ℕ, suc, ◌+◌, ◌≤◌, List, [], ◌∷◌, ◌++◌, length, refl, sym, ap, ◌∙◌, arith}
use Rattle.std.proofs.lemmas.List.{append_assoc, append-nil, length-append}
use Rattle.jif_tree.specs.Trees.{ExprTree, number, local, scalar, element, inverted, negated, binary, declassified}
use Rattle.jif_tree.specs.Trees.{endorsed}
use Rattle.jif_tree.specs.Sizes.{expr_nodes}
use Rattle.host_code.specs.declared.code_expr.Node.{Node}
use Rattle.host_code.specs.declared.code_expr.Node.TheVariants as node
use Rattle.host_code.specs.declared.code_expr.TheConstants.{MOST_NODES}
use Rattle.host_code.specs.CodeExpr.{IsExpression, depth_after}
use Rattle.split_rules.specs.Expressions.{reads_in, nodes_of}

-- an expression reads no more than it has nodes
pub reads_few : (expr : ExprTree) → reads_in expr ≤ expr_nodes expr
reads_few (number value) = omega arith
reads_few (local x) = omega arith
reads_few (scalar field) = omega arith
reads_few (element field index) = omega (arith, reads_few index)
reads_few (inverted operand) = omega (arith, reads_few operand)
reads_few (negated operand) = omega (arith, reads_few operand)
reads_few (binary operator left right) = omega (arith, reads_few left, reads_few right)
reads_few (declassified operand label) = omega (arith, reads_few operand)
reads_few (endorsed operand label) = omega (arith, reads_few operand)

-- and its code has no more nodes
pub nodes_few : (first : ℕ) (expr : ExprTree) → length (nodes_of first expr) ≤ expr_nodes expr
nodes_few first (number value) = omega arith
nodes_few first (local x) = omega arith
nodes_few first (scalar field) = omega arith
nodes_few first (element field index) = omega arith
nodes_few first (inverted operand) =
    omega (arith, nodes_few first operand, length-append (nodes_of first operand) (node.Not ∷ []))
nodes_few first (negated operand) =
    omega (arith, nodes_few first operand, length-append (nodes_of first operand) (node.Negate ∷ []))
nodes_few first (binary operator left right) =
    omega (
      arith,
      nodes_few first left,
      nodes_few (first + reads_in left) right,
      length-append (nodes_of first left) (nodes_of (first + reads_in left) right),
      length-append (nodes_of first left ++ nodes_of (first + reads_in left) right) (node.Binary operator ∷ []),
    )
nodes_few first (declassified operand label) = omega (arith, nodes_few first operand)
nodes_few first (endorsed operand label) = omega (arith, nodes_few first operand)

-- with it there is one value more for what follows
leaves_one_more : (first : ℕ) (expr : ExprTree) (others : List Node) (depth : ℕ) →
    depth_after (nodes_of first expr ++ others) depth ≡ depth_after others (suc depth)
leaves_one_more first (number value) others depth = refl
leaves_one_more first (local x) others depth = refl
leaves_one_more first (scalar field) others depth = refl
leaves_one_more first (element field index) others depth = refl
leaves_one_more first (inverted operand) others depth =
    ap (λ nodes. depth_after nodes depth) (append_assoc (nodes_of first operand) (node.Not ∷ []) others)
    ∙ leaves_one_more first operand (node.Not ∷ others) depth
leaves_one_more first (negated operand) others depth =
    ap (λ nodes. depth_after nodes depth) (append_assoc (nodes_of first operand) (node.Negate ∷ []) others)
    ∙ leaves_one_more first operand (node.Negate ∷ others) depth
leaves_one_more first (binary operator left right) others depth =
    let right_nodes = nodes_of (first + reads_in left) right in
    let last = node.Binary operator in
    ap (λ nodes. depth_after nodes depth)
    (append_assoc (nodes_of first left ++ right_nodes) (last ∷ []) others
    ∙ append_assoc (nodes_of first left) right_nodes (last ∷ others))
    ∙ leaves_one_more first left (right_nodes ++ last ∷ others) depth
    ∙ leaves_one_more (first + reads_in left) right (last ∷ others) (suc depth)
leaves_one_more first (declassified operand label) others depth = leaves_one_more first operand others depth
leaves_one_more first (endorsed operand label) others depth = leaves_one_more first operand others depth

-- the nodes of an expression that has few are an expression of code
pub is_expression : (first : ℕ) (expr : ExprTree) → expr_nodes expr ≤ MOST_NODES →
    IsExpression (nodes_of first expr)
is_expression first expr few = record {
  few = omega (arith, nodes_few first expr);
  leaves_one =
      ap (λ nodes. depth_after nodes 0) (sym (append-nil (nodes_of first expr))) ∙ leaves_one_more first expr [] 0;
}
