-- The trees of statements with blocks in them. The premises are the clauses of `tree_laws`.
use Rattle.std.proofs.Common.{◌≡◌, ◌∙◌, ap}
use Rattle.std.specs.Global.{Vec}
use Rattle.jif_tree.specs.declared.program.Stmt.{Stmt}
use Rattle.jif_tree.specs.declared.program.StmtKind.{StmtKind, If, While}
use Rattle.jif_tree.specs.declared.program.Expr.{Expr}
use Rattle.jif_tree.specs.Trees.{Heading, BlockTree, branch, loop, expr_tree, statement_tree, block_tree, head_of}
use Rattle.jif_tree.specs.Trees.{tree_before}

abbrev Branches : Type 0
Branches = (guard : Expr) (first second : Vec Stmt) (heading : Heading) (rest : BlockTree) →
    statement_tree (If guard first second) heading rest
    ≡ branch heading (expr_tree guard) (block_tree first.items) (block_tree second.items) rest

abbrev Loops : Type 0
Loops = (guard : Expr) (body : Vec Stmt) (heading : Heading) (rest : BlockTree) →
    statement_tree (While guard body) heading rest ≡ loop heading (expr_tree guard) (block_tree body.items) rest

pub if_is : (statement : Stmt) (guard : Expr) (first second : Vec Stmt) (rest : BlockTree) →
    statement.kind ≡ If guard first second → Branches →
    tree_before statement rest
    ≡ branch (head_of statement) (expr_tree guard) (block_tree first.items) (block_tree second.items) rest
if_is statement guard first second rest is branches =
    ap (λ (what : StmtKind). statement_tree what (head_of statement) rest) is
    ∙ branches guard first second (head_of statement) rest

pub while_is : (statement : Stmt) (guard : Expr) (body : Vec Stmt) (rest : BlockTree) →
    statement.kind ≡ While guard body → Loops →
    tree_before statement rest ≡ loop (head_of statement) (expr_tree guard) (block_tree body.items) rest
while_is statement guard body rest is loops =
    ap (λ (what : StmtKind). statement_tree what (head_of statement) rest) is
    ∙ loops guard body (head_of statement) rest
