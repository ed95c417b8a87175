-- How many statements a block has, with those in the blocks inside it: the measure of walks over blocks.
use Rattle.std.proofs.Common.{◌≡◌, ℕ, zero, suc, ◌+◌, ◌<◌, ◌≤◌, ap, subst, sym, List, [], ◌∷◌, length, get_or, arith}
use Rattle.jif_tree.specs.declared.program.Stmt.{Stmt}
use Rattle.jif_tree.specs.declared.program.StmtKind.{StmtKind}
use Rattle.jif_tree.specs.declared.program.StmtKind as kind
use Rattle.jif_tree.specs.Trees.{Heading, BlockTree, done, set_local, set_field, set_element, branch, loop, call}
use Rattle.jif_tree.specs.Trees.{give_back, statement_tree, block_tree, tree_before, head_of}

abbrev pub count_in : BlockTree → ℕ
count_in done = 0
count_in (set_local heading x value rest) = 1 + count_in rest
count_in (set_field heading field value rest) = 1 + count_in rest
count_in (set_element heading field index value rest) = 1 + count_in rest
count_in (branch heading guard first second rest) = 1 + (count_in first + (count_in second + count_in rest))
count_in (loop heading guard body rest) = 1 + (count_in body + count_in rest)
count_in (call heading site method arguments into rest) = 1 + count_in rest
count_in (give_back heading value rest) = 1 + count_in rest

counted_apart : (what : StmtKind) (heading : Heading) (rest : BlockTree) →
    count_in (statement_tree what heading rest) ≡ count_in (statement_tree what heading done) + count_in rest
counted_apart (kind.Let x value) heading rest = omega arith
counted_apart (kind.SetField field value) heading rest = omega arith
counted_apart (kind.SetElement field index value) heading rest = omega arith
counted_apart (kind.If' guard m first n second) heading rest = omega arith
counted_apart (kind.While' guard m body) heading rest = omega arith
counted_apart (kind.Call site method args into) heading rest = omega arith
counted_apart (kind.Return value) heading rest = omega arith

-- a statement of a block counts no more than the block
pub part_counts : (statements : List Stmt) (place : ℕ) (statement : Stmt) → place < length statements →
    statement ≡ get_or statements place statement →
    count_in (tree_before statement done) ≤ count_in (block_tree statements)
part_counts [] place statement within is = absurd (omega arith)
part_counts (first ∷ others) zero statement within is =
    let P : Stmt → Type 0 = λ one. count_in (tree_before one done) ≤ count_in (block_tree (first ∷ others)) in
    let apart = counted_apart first.kind (head_of first) (block_tree others) in
    subst P (sym is) (omega arith)
part_counts (first ∷ others) (suc place) statement within is =
    let apart = counted_apart first.kind (head_of first) (block_tree others) in
    let so = part_counts others place statement (omega arith) is in
    omega arith

pub first_counts : (heading : Heading) {guard : _} (first second tree : BlockTree) →
    tree ≡ branch heading guard first second done → count_in first < count_in tree
first_counts heading first second tree is = omega (arith, ap count_in is)

pub second_counts : (heading : Heading) {guard : _} (first second tree : BlockTree) →
    tree ≡ branch heading guard first second done → count_in second < count_in tree
second_counts heading first second tree is = omega (arith, ap count_in is)

pub body_counts : (heading : Heading) {guard : _} (body tree : BlockTree) →
    tree ≡ loop heading guard body done → count_in body < count_in tree
body_counts heading body tree is = omega (arith, ap count_in is)

pub both_counts : (heading : Heading) {guard : _} (first second tree : BlockTree) →
    tree ≡ branch heading guard first second done → count_in first + count_in second < count_in tree
both_counts heading first second tree is = omega (arith, ap count_in is)
