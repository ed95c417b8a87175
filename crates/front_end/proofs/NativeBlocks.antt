-- Statements of the code that are seen as a given block.
use Rattle.std.proofs.Common.{◌≡◌, ℕ, suc, ◌+◌, ◌<◌, ◌≤◌, ◌^◌, Bool, List, [], ◌∷◌, ◌++◌, length}
use Rattle.std.proofs.Common.{refl, ap, ◌∙◌, arith, Global, Vec}
use Rattle.std.proofs.lemmas.List.{length-append}
use Rattle.std.proofs.lemmas.Option.{slice_get_within, get_or_from_slice_get}
use Rattle.js_base.specs.declared.ids.MethodId.{MethodId}
use Rattle.js_base.specs.declared.limits.TheConstants.{STATEMENTS}
use Rattle.jif_tree.specs.declared.program.Expr.{Expr}
use Rattle.jif_tree.specs.declared.program.Stmt.{Stmt}
use Rattle.jif_tree.specs.declared.program.StmtKind.{StmtKind}
use Rattle.jif_tree.specs.declared.program.StmtKind as kind
use Rattle.jif_tree.specs.Limits.{IsWithinLimits}
use Rattle.jif_tree.specs.Numbering.{block_statements}
use Rattle.jif_tree.specs.Trees as tree
use Rattle.jif_tree.specs.Trees.{ExprTree, Heading, BlockTree, MethodTree, ProgramTree, expr_tree, statement_tree}
use Rattle.jif_tree.specs.Trees.{block_tree}
use Rattle.jif_tree.specs.WellNumbered.{HasMethod, IsBlockIn}
use Rattle.jif_tree.proofs.Rows.{if_tree, while_tree}
use Rattle.front_end.proofs.NativeParts.{vector, expr_seen, exprs_seen, vector_seen}

-- no more statements than the block has, with those inside it
pub record BlockSeen (block : BlockTree) : Type 0 where
  pub statements : List Stmt
  pub few : length statements ≤ length (block_statements block)
  pub is : block_tree statements ≡ block

-- one more statement before those that follow it
with_statement : (what : StmtKind) (heading : Heading) (rest block : BlockTree) → (more : BlockSeen rest) →
    statement_tree what heading rest ≡ block → length (block_statements rest) < length (block_statements block) →
    BlockSeen block
with_statement what heading rest block more same counts = record {
  statements = record { id = heading.id; line = heading.line; kind = what } ∷ more.statements;
  few = omega (arith, more.few, counts);
  is = ap (statement_tree what heading) more.is ∙ same;
}

-- the counts of blocks inside a statement
both_fit : (n : ℕ) (first second rest : List ℕ) →
    length (n ∷ first ++ second ++ rest) ≡ suc (length first + (length second + length rest))
both_fit n first second rest =
    omega (arith, length-append (first ++ second) rest, length-append first second)

one_fits : (n : ℕ) (first rest : List ℕ) → length (n ∷ first ++ rest) ≡ suc (length first + length rest)
one_fits n first rest = omega (arith, length-append first rest)

short_block : {block : BlockTree} (inner : BlockSeen block) → length (block_statements block) ≤ STATEMENTS →
    length inner.statements < 2 ^ 63
short_block inner fits = omega (arith, inner.few, fits)

-- a call has few arguments
few_arguments : (program : ProgramTree) → IsWithinLimits program → (gives : Bool) (called : MethodId)
    (args : List ExprTree) → HasMethod program (length args) gives called → length args < 2 ^ 63
few_arguments program within gives called args has =
    let method : MethodTree = has.0 in
    let at = has.1 in
    let inside = slice_get_within program.methods called.0 method at in
    let few = within.params called.0 method inside in
    let same = get_or_from_slice_get program.methods called.0 method method at in
    let here = ap (λ (m : MethodTree). length m.params) same in
    omega (arith, few, here, has.2)

same_branch : {test guard : ExprTree} {one first other second : BlockTree} (heading : Heading) (rest : BlockTree) →
    test ≡ guard → one ≡ first → other ≡ second →
    tree.branch heading test one other rest ≡ tree.branch heading guard first second rest
same_branch heading rest tests ones others = cc

branch_seen : (test : Expr) (then_part else_part : Vec Stmt Global) (heading : Heading) (guard : ExprTree)
    (first second rest : BlockTree) → expr_tree test ≡ guard → block_tree then_part.items ≡ first →
    block_tree else_part.items ≡ second →
    statement_tree (kind.If test then_part else_part) heading rest ≡ tree.branch heading guard first second rest
branch_seen test then_part else_part heading guard first second rest tests ones others =
    if_tree test then_part else_part heading rest ∙ same_branch heading rest tests ones others

same_loop : {test guard : ExprTree} {one body : BlockTree} (heading : Heading) (rest : BlockTree) → test ≡ guard →
    one ≡ body → tree.loop heading test one rest ≡ tree.loop heading guard body rest
same_loop heading rest tests ones = cc

loop_seen : (test : Expr) (inside : Vec Stmt Global) (heading : Heading) (guard : ExprTree) (body rest : BlockTree) →
    expr_tree test ≡ guard → block_tree inside.items ≡ body →
    statement_tree (kind.While test inside) heading rest ≡ tree.loop heading guard body rest
loop_seen test inside heading guard body rest tests ones =
    while_tree test inside heading rest ∙ same_loop heading rest tests ones

pub block_seen : (program : ProgramTree) → IsWithinLimits program → (method : MethodId) (gives : Bool)
    (block : BlockTree) → IsBlockIn program method gives block → length (block_statements block) ≤ STATEMENTS →
    BlockSeen block
block_seen program within method gives tree.done is fits = record { statements = []; few = omega arith; is = refl }
block_seen program within method gives (tree.set_local heading x value rest) is fits =
    let native = expr_seen value in
    let more = block_seen program within method gives rest is.2 (omega (arith, fits)) in
    with_statement (kind.Let x native.0) heading rest _ more
    (ap (λ e. tree.set_local heading x e rest) native.1) (omega arith)
block_seen program within method gives (tree.set_field heading field value rest) is fits =
    let native = expr_seen value in
    let more = block_seen program within method gives rest is.2 (omega (arith, fits)) in
    with_statement (kind.SetField field native.0) heading rest _ more
    (ap (λ e. tree.set_field heading field e rest) native.1) (omega arith)
block_seen program within method gives (tree.set_element heading field index value rest) is fits =
    let place = expr_seen index in
    let native = expr_seen value in
    let more = block_seen program within method gives rest is.3 (omega (arith, fits)) in
    with_statement (kind.SetElement field place.0 native.0) heading rest _ more
    (ap (λ e. tree.set_element heading field e (expr_tree native.0) rest) place.1
    ∙ ap (λ e. tree.set_element heading field index e rest) native.1) (omega arith)
block_seen program within method gives (tree.branch heading guard first second rest) is fits =
    let counted =
    both_fit heading.id.0 (block_statements first) (block_statements second) (block_statements rest) in
    let first_fits : length (block_statements first) ≤ STATEMENTS = omega (arith, counted, fits) in
    let second_fits : length (block_statements second) ≤ STATEMENTS = omega (arith, counted, fits) in
    let test = expr_seen guard in
    let one = block_seen program within method gives first is.1 first_fits in
    let other = block_seen program within method gives second is.2 second_fits in
    let more = block_seen program within method gives rest is.3 (omega (arith, counted, fits)) in
    let then_part = vector one.statements (short_block one first_fits) in
    let else_part = vector other.statements (short_block other second_fits) in
    with_statement (kind.If test.0 then_part else_part) heading rest _ more
    (branch_seen test.0 then_part else_part heading guard first second rest test.1 one.is other.is)
    (omega (arith, counted))
block_seen program within method gives (tree.loop heading guard body rest) is fits =
    let counted = one_fits heading.id.0 (block_statements body) (block_statements rest) in
    let body_fits : length (block_statements body) ≤ STATEMENTS = omega (arith, counted, fits) in
    let test = expr_seen guard in
    let one = block_seen program within method gives body is.1 body_fits in
    let more = block_seen program within method gives rest is.2 (omega (arith, counted, fits)) in
    let inside = vector one.statements (short_block one body_fits) in
    with_statement (kind.While test.0 inside) heading rest _ more
    (loop_seen test.0 inside heading guard body rest test.1 one.is) (omega (arith, counted))
block_seen program within method gives (tree.call heading site called args into rest) is fits =
    let values = vector_seen expr_tree args (few_arguments program within _ called args is.0) (exprs_seen args) in
    let more = block_seen program within method gives rest is.3 (omega (arith, fits)) in
    with_statement (kind.Call site called values.0 into) heading rest _ more
    (ap (λ es. tree.call heading site called es into rest) values.1) (omega arith)
block_seen program within method gives (tree.give_back heading value rest) is fits =
    let native = expr_seen value in
    let more = block_seen program within method gives rest is.2 (omega (arith, fits)) in
    with_statement (kind.Return native.0) heading rest _ more
    (ap (λ e. tree.give_back heading e rest) native.1) (omega arith)
