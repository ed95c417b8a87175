-- What holds of the expressions of a block holds of those of its statements.
use Rattle.std.proofs.Common.{◌≡◌, ℕ, zero, suc, ◌+◌, ◌<◌, ◌≤◌, List, [], ◌∷◌, ◌++◌, All, map, sum, length, get_or}
use Rattle.std.proofs.Common.{refl, ap, sym}
use Rattle.std.proofs.Common.{subst, arith}
use Rattle.std.proofs.lemmas.List.{append-nil}
use Rattle.std.proofs.lemmas.List.Elements.{All-head, All-tail, All-cons, All-nil}
use Rattle.std.proofs.lemmas.List.Sums.{sum_by-cons}
use Rattle.jif_tree.specs.declared.program.Expr.{Expr}
use Rattle.jif_tree.specs.declared.program.Stmt.{Stmt}
use Rattle.jif_tree.specs.declared.program.StmtKind.{StmtKind}
use Rattle.jif_tree.specs.declared.program.StmtKind as kind
use Rattle.jif_tree.specs.Trees.{Heading, ExprTree, BlockTree, done, branch, loop, call, statement_tree, block_tree}
use Rattle.jif_tree.specs.Trees.{expr_tree}
use Rattle.jif_tree.specs.Trees.{row_tree, tree_before, head_of}
use Rattle.jif_tree.specs.Sizes.{expr_nodes, block_nodes}
use Rattle.host_code.specs.declared.code_expr.TheConstants.{MOST_NODES}
use Rattle.control_split.specs.Views.{IsSizedExpr, IsSizedBlock}

abbrev pub IsFew : ℕ → Type 0
IsFew nodes = nodes ≤ MOST_NODES

pub all_first : (first second : List ℕ) → All IsFew (first ++ second) → All IsFew first
all_first [] second all = All-nil IsFew
all_first (nodes ∷ first) second all =
    All-cons IsFew nodes first (All-head IsFew nodes (first ++ second) all)
    (all_first first second (All-tail IsFew nodes (first ++ second) all))

pub all_second : (first second : List ℕ) → All IsFew (first ++ second) → All IsFew second
all_second [] second all = all
all_second (nodes ∷ first) second all = all_second first second (All-tail IsFew nodes (first ++ second) all)

nodes_apart : (what : StmtKind) (heading : Heading) (rest : BlockTree) →
    block_nodes (statement_tree what heading rest)
    ≡ block_nodes (statement_tree what heading done) ++ block_nodes rest
nodes_apart (kind.Let x value) heading rest = refl
nodes_apart (kind.SetField field value) heading rest = refl
nodes_apart (kind.SetElement field index value) heading rest = refl
nodes_apart (kind.If' guard m first n second) heading rest =
    ap (λ nodes. nodes ++ block_nodes rest)
    (sym (append-nil (expr_nodes (expr_tree guard) ∷ block_nodes (row_tree first) ++ block_nodes (row_tree second))))
nodes_apart (kind.While' guard m body) heading rest =
    ap (λ nodes. nodes ++ block_nodes rest)
    (sym (append-nil (expr_nodes (expr_tree guard) ∷ block_nodes (row_tree body))))
nodes_apart (kind.Call site method args into) heading rest = refl
nodes_apart (kind.Return value) heading rest = refl

pub sized_part : (statements : List Stmt) (place : ℕ) (statement : Stmt) → place < length statements →
    statement ≡ get_or statements place statement → IsSizedBlock (block_tree statements) →
    IsSizedBlock (tree_before statement done)
sized_part [] place statement within is sized = absurd (omega arith)
sized_part (first ∷ others) zero statement within is sized =
    let P : Stmt → Type 0 = λ one. IsSizedBlock (tree_before one done) in
    let heading : Heading = head_of first in
    subst P (sym is) (all_first (block_nodes (tree_before first done)) (block_nodes (block_tree others))
    (subst (All IsFew) (nodes_apart first.kind heading (block_tree others)) sized))
sized_part (first ∷ others) (suc place) statement within is sized =
    let heading : Heading = head_of first in
    sized_part others place statement (omega arith) is
    (all_second (block_nodes (tree_before first done)) (block_nodes (block_tree others))
    (subst (All IsFew) (nodes_apart first.kind heading (block_tree others)) sized))

-- ---- branches, loops and calls

pub sized_guard : (heading : Heading) (guard : ExprTree) (first second tree : BlockTree) →
    tree ≡ branch heading guard first second done → IsSizedBlock tree → IsSizedExpr guard
sized_guard heading guard first second tree is sized =
    All-head IsFew (expr_nodes guard) (block_nodes first ++ block_nodes second ++ [])
    (subst IsSizedBlock is sized)

pub sized_first : (heading : Heading) (guard : ExprTree) (first second tree : BlockTree) →
    tree ≡ branch heading guard first second done → IsSizedBlock tree → IsSizedBlock first
sized_first heading guard first second tree is sized =
    all_first (block_nodes first) (block_nodes second)
    (all_first (block_nodes first ++ block_nodes second) []
    (All-tail IsFew (expr_nodes guard) (block_nodes first ++ block_nodes second ++ []) (subst IsSizedBlock is sized)))

pub sized_second : (heading : Heading) (guard : ExprTree) (first second tree : BlockTree) →
    tree ≡ branch heading guard first second done → IsSizedBlock tree → IsSizedBlock second
sized_second heading guard first second tree is sized =
    all_second (block_nodes first) (block_nodes second)
    (all_first (block_nodes first ++ block_nodes second) []
    (All-tail IsFew (expr_nodes guard) (block_nodes first ++ block_nodes second ++ []) (subst IsSizedBlock is sized)))

pub sized_loop_guard : (heading : Heading) (guard : ExprTree) (body tree : BlockTree) →
    tree ≡ loop heading guard body done → IsSizedBlock tree → IsSizedExpr guard
sized_loop_guard heading guard body tree is sized =
    All-head IsFew (expr_nodes guard) (block_nodes body ++ []) (subst IsSizedBlock is sized)

pub sized_body : (heading : Heading) (guard : ExprTree) (body tree : BlockTree) →
    tree ≡ loop heading guard body done → IsSizedBlock tree → IsSizedBlock body
sized_body heading guard body tree is sized =
    all_first (block_nodes body) []
    (All-tail IsFew (expr_nodes guard) (block_nodes body ++ []) (subst IsSizedBlock is sized))

each_few : (args : List Expr) → sum (map expr_nodes (map expr_tree args)) ≤ MOST_NODES →
    All (λ arg. IsSizedExpr (expr_tree arg)) args
each_few [] few = All-nil (λ (arg : Expr). IsSizedExpr (expr_tree arg))
each_few (arg ∷ args) few =
    let both : expr_nodes (expr_tree arg) + sum (map expr_nodes (map expr_tree args)) ≤ MOST_NODES =
    rw (sum_by-cons (λ nodes. nodes) (expr_nodes (expr_tree arg)) (map expr_nodes (map expr_tree args))) at few in
    All-cons (λ (one : Expr). IsSizedExpr (expr_tree one)) arg args (omega (arith, both))
    (each_few args (omega (arith, both)))

pub sized_args : (tree : BlockTree) (args : List Expr) {heading : _} {site : _} {method : _} {into : _} →
    tree ≡ call heading site method (map expr_tree args) into done → IsSizedBlock tree →
    All (λ arg. IsSizedExpr (expr_tree arg)) args
sized_args tree args is sized =
    each_few args (All-head IsFew (sum (map expr_nodes (map expr_tree args))) [] (subst IsSizedBlock is sized))
