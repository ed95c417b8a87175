-- Blocks as lists of statements: what statement stands where, and how large blocks are.
use Rattle.std.proofs.Common.{◌≡◌, ◌∙◌, refl, ap, List, [], ◌∷◌}
use Rattle.js_base.specs.declared.ids.StmtId.{StmtId}
use Rattle.jif_tree.specs.declared.program.Stmt.{Stmt}
use Rattle.jif_tree.specs.declared.program.StmtKind.{StmtKind}
use Rattle.jif_tree.specs.declared.program.StmtKind as kind
use Rattle.jif_tree.specs.Trees.{Heading, BlockTree, done, set_local, set_field, set_element, branch}
use Rattle.jif_tree.specs.Trees.{loop, call, give_back}
use Rattle.jif_tree.specs.Trees.{statement_tree, block_tree, head_of}
use Rattle.msg_cost.specs.Moves.{own_statements}
use Rattle.msg_cost.specs.Pieces.{Given, given_ids, given_statements}
use Rattle.msg_cost.specs.PieceViews.{gives, given_of, givens_of}
use Rattle.msg_cost.specs.Views.{ids_of}

pub own_first : (what : StmtKind) (heading : Heading) (rest : BlockTree) →
    own_statements (statement_tree what heading rest) ≡ heading.id ∷ own_statements rest
own_first (kind.Let x value) heading rest = refl
own_first (kind.SetField field value) heading rest = refl
own_first (kind.SetElement field index value) heading rest = refl
own_first (kind.If' guard m first n second) heading rest = refl
own_first (kind.While' guard m body) heading rest = refl
own_first (kind.Call site method args into) heading rest = refl
own_first (kind.Return value) heading rest = refl

-- the statements of a block are those of its list
pub own_ids : (statements : List Stmt) → own_statements (block_tree statements) ≡ ids_of statements
own_ids [] = refl
own_ids (first ∷ others) =
    own_first first.kind (head_of first) (block_tree others)
    ∙ ap (λ (ids : List StmtId). first.id ∷ ids) (own_ids others)

given_first : (what : StmtKind) (heading : Heading) (rest : BlockTree) →
    given_statements (statement_tree what heading rest)
    ≡ record { id = heading.id; gives = gives what } ∷ given_statements rest
given_first (kind.Let x value) heading rest = refl
given_first (kind.SetField field value) heading rest = refl
given_first (kind.SetElement field index value) heading rest = refl
given_first (kind.If' guard m first n second) heading rest = refl
given_first (kind.While' guard m body) heading rest = refl
given_first (kind.Call site method args into) heading rest = refl
given_first (kind.Return value) heading rest = refl

-- the statements of a block with what they give are those of its list
pub given_list : (statements : List Stmt) → given_statements (block_tree statements) ≡ givens_of statements
given_list [] = refl
given_list (first ∷ others) =
    given_first first.kind (head_of first) (block_tree others)
    ∙ ap (λ (more : List Given). given_of first ∷ more) (given_list others)

pub list_ids : (statements : List Stmt) → given_ids (givens_of statements) ≡ ids_of statements
list_ids [] = refl
list_ids (first ∷ others) = ap (λ (ids : List StmtId). first.id ∷ ids) (list_ids others)

-- the numbers of the statements are the same
pub given_own : (block : BlockTree) → own_statements block ≡ given_ids (given_statements block)
given_own done = refl
given_own (set_local heading x value rest) = ap (λ (ids : List StmtId). heading.id ∷ ids) (given_own rest)
given_own (set_field heading field value rest) = ap (λ (ids : List StmtId). heading.id ∷ ids) (given_own rest)
given_own (set_element heading field index value rest) = ap (λ (ids : List StmtId). heading.id ∷ ids) (given_own rest)
given_own (branch heading guard first second rest) = ap (λ (ids : List StmtId). heading.id ∷ ids) (given_own rest)
given_own (loop heading guard body rest) = ap (λ (ids : List StmtId). heading.id ∷ ids) (given_own rest)
given_own (call heading site method arguments into rest) =
    ap (λ (ids : List StmtId). heading.id ∷ ids) (given_own rest)
given_own (give_back heading value rest) = ap (λ (ids : List StmtId). heading.id ∷ ids) (given_own rest)
