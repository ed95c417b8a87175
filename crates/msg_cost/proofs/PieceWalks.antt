-- The pieces of a block, a statement at a time.
use Rattle.std.proofs.Common.{◌≡◌, ◌∙◌, ℕ, suc, Bool, true, List, [], ◌∷◌, ◌++◌, map, refl, ap, sym, append-nil}
use Rattle.std.proofs.Common.{append_assoc}
use Rattle.std.specs.List.{flat_map}
use Rattle.std.proofs.lemmas.List.{map-append}
use Rattle.js_base.specs.declared.ids.StmtId.{StmtId}
use Rattle.jif_tree.specs.declared.program.Stmt.{Stmt}
use Rattle.jif_tree.specs.declared.program.StmtKind.{StmtKind}
use Rattle.jif_tree.specs.declared.program.StmtKind as kind
use Rattle.jif_tree.specs.Trees.{Heading, BlockTree, ExprTree, done, statement_tree, block_tree, tree_before, head_of}
use Rattle.jif_tree.specs.declared.program.Method.{Method}
use Rattle.jif_tree.specs.Trees.{ProgramTree, method_tree, branch, loop}
use Rattle.msg_cost.specs.declared.piece.Piece.{Piece as Kept}
use Rattle.msg_cost.specs.PieceViews.{givens_of, walk_shape, piece_shape, all_pieces}
use Rattle.msg_cost.specs.declared.walk.Walk.{Walk}
use Rattle.msg_cost.specs.Terms.{inside}
use Rattle.msg_cost.proofs.Statements.{given_list}
use Rattle.msg_cost.specs.Pieces.{Given, given_statements, CostPiece, walk, expr_pieces, block_pieces, method_pieces}

pieces_first : (program : ProgramTree) (weight : ℕ) (home : StmtId) (own : List Given) (place : ℕ) (what : StmtKind)
    (heading : Heading) (rest : BlockTree) →
    block_pieces program weight home own place (statement_tree what heading rest)
    ≡ block_pieces program weight home own place (statement_tree what heading done)
    ++ block_pieces program weight home own (suc place) rest
pieces_first program weight home own place (kind.Let x value) heading rest =
    ap (λ (mine : List CostPiece). mine ++ block_pieces program weight home own (suc place) rest) (sym (append-nil _))
pieces_first program weight home own place (kind.SetField field value) heading rest =
    ap (λ (mine : List CostPiece). mine ++ block_pieces program weight home own (suc place) rest) (sym (append-nil _))
pieces_first program weight home own place (kind.SetElement field index value) heading rest =
    ap (λ (mine : List CostPiece). mine ++ block_pieces program weight home own (suc place) rest) (sym (append-nil _))
pieces_first program weight home own place (kind.If' guard m first n second) heading rest =
    ap (λ (mine : List CostPiece). mine ++ block_pieces program weight home own (suc place) rest) (sym (append-nil _))
pieces_first program weight home own place (kind.While' guard m body) heading rest =
    ap (λ (mine : List CostPiece). mine ++ block_pieces program weight home own (suc place) rest) (sym (append-nil _))
pieces_first program weight home own place (kind.Call site method args into) heading rest =
    ap (λ (mine : List CostPiece). mine ++ block_pieces program weight home own (suc place) rest) (sym (append-nil _))
pieces_first program weight home own place (kind.Return value) heading rest =
    ap (λ (mine : List CostPiece). mine ++ block_pieces program weight home own (suc place) rest) (sym (append-nil _))

moved_over : (so_far own left all next : List CostPiece) → so_far ++ (own ++ left) ≡ all → next ≡ so_far ++ own →
    next ++ left ≡ all
moved_over so_far own left all next was is =
    ap (λ (one : List CostPiece). one ++ left) is ∙ append_assoc so_far own left ∙ was

-- the pieces of one more statement are there
pub one_more : (program : ProgramTree) (weight : ℕ) (home : StmtId) (own : List Given) (place : ℕ)
    (so_far next all : List CostPiece) (statement : Stmt) (others : List Stmt) →
    so_far ++ block_pieces program weight home own place (block_tree (statement ∷ others)) ≡ all →
    next ≡ so_far ++ block_pieces program weight home own place (tree_before statement done) →
    next ++ block_pieces program weight home own (suc place) (block_tree others) ≡ all
one_more program weight home own place so_far next all statement others was is =
    let parts = pieces_first program weight home own place statement.kind (head_of statement) (block_tree others) in
    let mine = block_pieces program weight home own place (tree_before statement done) in
    moved_over so_far mine (block_pieces program weight home own (suc place) (block_tree others)) all next
    (ap (λ (left : List CostPiece). so_far ++ left) (sym parts) ∙ was) is

-- ---- walks of blocks

pub pushed_one : (old items : List Kept) (piece : Kept) → items ≡ old ++ piece ∷ [] →
    all_pieces items ≡ all_pieces old ++ piece_shape piece ∷ []
pushed_one old items piece is = ap all_pieces is ∙ map-append piece_shape old (piece ∷ [])

pub walk_is : (one : Walk) (weight : ℕ) (home : StmtId) (nested : Bool) (block : List Stmt) → one.weight ≡ weight →
    one.home ≡ home → one.nested ≡ nested → one.block.now ≡ block →
    walk_shape one ≡ walk weight home nested (givens_of block)
walk_is one weight home nested block weighs begins is_nested has =
    rw (weighs, begins, is_nested, has) refl

-- a block is walked, and has its pieces
pub walked_added : (program : ProgramTree) (weight : ℕ) (home : StmtId) (nested : Bool) (block : List Stmt)
    (old pushed next : List CostPiece) → pushed ≡ old ++ walk weight home nested (givens_of block) ∷ [] →
    next ≡ pushed ++ block_pieces program weight home (givens_of block) 0 (block_tree block) →
    next ≡ old ++ (walk weight home nested (given_statements (block_tree block))
    ∷ block_pieces program weight home (given_statements (block_tree block)) 0 (block_tree block))
walked_added program weight home nested block old pushed next first is =
    let rest = block_pieces program weight home (givens_of block) 0 (block_tree block) in
    is ∙ ap (λ (one : List CostPiece). one ++ rest) first
    ∙ append_assoc old (walk weight home nested (givens_of block) ∷ []) rest
    ∙ ap (λ (own : List Given).
    old ++ (walk weight home nested own ∷ block_pieces program weight home own 0 (block_tree block)))
    (sym (given_list block))

-- one more method has its pieces
pub method_more : (program : ProgramTree) (so_far next all : List CostPiece) (method : Method) (others : List Method) →
    so_far ++ flat_map (method_pieces program) (map method_tree (method ∷ others)) ≡ all →
    next ≡ so_far ++ method_pieces program (method_tree method) →
    next ++ flat_map (method_pieces program) (map method_tree others) ≡ all
method_more program so_far next all method others was is =
    moved_over so_far (method_pieces program (method_tree method))
    (flat_map (method_pieces program) (map method_tree others)) all next was is

-- ---- branches and loops

pub branch_pieces : (program : ProgramTree) (weight : ℕ) (home : StmtId) (own : List Given) (place : ℕ)
    (heading : Heading) (guard : ExprTree) (first second : BlockTree) (old read one two : List CostPiece) →
    read ≡ old ++ expr_pieces weight heading.id guard →
    one ≡ read ++ (walk weight heading.id true (given_statements first)
    ∷ block_pieces program weight heading.id (given_statements first) 0 first) →
    two ≡ one ++ (walk weight heading.id true (given_statements second)
    ∷ block_pieces program weight heading.id (given_statements second) 0 second) →
    two ≡ old ++ block_pieces program weight home own place (branch heading guard first second done)
branch_pieces program weight home own place heading guard first second old read one two read_is one_is two_is =
    let guards = expr_pieces weight heading.id guard in
    let firsts : List CostPiece =
    walk weight heading.id true (given_statements first)
    ∷ block_pieces program weight heading.id (given_statements first) 0 first in
    let seconds : List CostPiece =
    walk weight heading.id true (given_statements second)
    ∷ block_pieces program weight heading.id (given_statements second) 0 second in
    two_is ∙ ap (λ (so_far : List CostPiece). so_far ++ seconds)
    (one_is ∙ ap (λ (so_far : List CostPiece). so_far ++ firsts) read_is ∙ append_assoc old guards firsts)
    ∙ append_assoc old (guards ++ firsts) seconds
    ∙ ap (λ (mine : List CostPiece). old ++ mine) (sym (append-nil (guards ++ firsts ++ seconds)))

pub loop_pieces : (program : ProgramTree) (weight : ℕ) (home : StmtId) (own : List Given) (place : ℕ)
    (heading : Heading) (guard : ExprTree) (body : BlockTree) (old read one : List CostPiece) →
    read ≡ old ++ expr_pieces (inside weight) heading.id guard →
    one ≡ read
    ++ (walk (inside weight) heading.id true (given_statements body)
    ∷ block_pieces program (inside weight) heading.id (given_statements body) 0 body) →
    one ≡ old ++ block_pieces program weight home own place (loop heading guard body done)
loop_pieces program weight home own place heading guard body old read one read_is one_is =
    let guards = expr_pieces (inside weight) heading.id guard in
    let bodies : List CostPiece =
    walk (inside weight) heading.id true (given_statements body)
    ∷ block_pieces program (inside weight) heading.id (given_statements body) 0 body in
    one_is ∙ ap (λ (so_far : List CostPiece). so_far ++ bodies) read_is ∙ append_assoc old guards bodies
    ∙ ap (λ (mine : List CostPiece). old ++ mine) (sym (append-nil (guards ++ bodies)))
