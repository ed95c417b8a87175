-- What the reads of an expression release, by its parts.
use Rattle.std.proofs.Common.{◌≡◌, ◌∙◌, ℕ, suc, ◌+◌, ◌<◌, ◌≤◌, List, ◌++◌, map, drop, get_or, length, ap, sym, arith}
use Rattle.std.proofs.Common.{append_assoc}
use Rattle.std.proofs.lemmas.List.Concat.{flat_map-cons}
use Rattle.std.specs.List.{flat_map}
use Rattle.js_base.proofs.Lists.{next_of}
use Rattle.jif_tree.specs.declared.program.Expr.{Expr}
use Rattle.std.proofs.lemmas.List.{map-append}
use Rattle.jif_tree.specs.Trees.{ExprTree, expr_tree}
use Rattle.jif_tree.specs.Sizes.{expr_nodes}
use Rattle.host_code.specs.declared.code_expr.Node.{Node}
use Rattle.split_rules.specs.Expressions.{ElementReading, reads_in}
use Rattle.split_rules.specs.ReleaseRows.{read_rows, value_rows}
use Rattle.split_rules.proofs.ExpressionNodes.{reads_few}

-- there is room for the temporaries of a second operand
pub room_behind : (first middle most : ℕ) (left right : ExprTree) → middle ≡ first + reads_in left →
    first + (1 + (expr_nodes left + expr_nodes right)) ≤ most → middle + expr_nodes right ≤ most
room_behind first middle most left right is room = omega (arith, reads_few left, is, room)

-- what was added for one part, and then for another
pub rows_then : {X : Type 0} (before between after one two : List X) → between ≡ before ++ one →
    after ≡ between ++ two → after ≡ before ++ (one ++ two)
rows_then before between after one two first second =
    second ∙ ap (λ list. list ++ two) first ∙ append_assoc before one two

pub reads_then : (before between after : List (List (List Node))) (one two : List ElementReading) →
    between ≡ before ++ read_rows one → after ≡ between ++ read_rows two →
    after ≡ before ++ read_rows (one ++ two)
reads_then before between after one two first second =
    rows_then before between after (read_rows one) (read_rows two) first second
    ∙ ap (λ list. before ++ list) (sym (map-append (λ (reading : ElementReading). reading.released) one two))

-- there is room for the temporaries of a value behind an index
pub value_behind : (middle most : ℕ) (index value : ExprTree) → middle ≡ 0 + reads_in index →
    expr_nodes index + expr_nodes value ≤ most → middle + expr_nodes value ≤ most
value_behind middle most index value is room = omega (arith, reads_few index, is, room)

-- one argument more
pub arguments_more : (before so_far now : List (List (List Node))) (args : List Expr) (place : ℕ) (arg : Expr) →
    place < length args → arg ≡ get_or args place arg → now ≡ so_far ++ value_rows (expr_tree arg) →
    so_far ++ flat_map value_rows (map expr_tree (drop place args)) ≡ before →
    now ++ flat_map value_rows (map expr_tree (drop (suc place) args)) ≡ before
arguments_more before so_far now args place arg within is now_is whole =
    let rest = map expr_tree (drop (suc place) args) in
    let next = next_of args place arg within is in
    ap (λ list. list ++ flat_map value_rows rest) now_is
    ∙ append_assoc so_far (value_rows (expr_tree arg)) (flat_map value_rows rest)
    ∙ ap (λ list. so_far ++ list) (sym (flat_map-cons value_rows (expr_tree arg) rest))
    ∙ ap (λ (list : List Expr). so_far ++ flat_map value_rows (map expr_tree list)) (sym next)
    ∙ whole
