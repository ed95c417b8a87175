-- The statements of a block, made one by one.
use Rattle.std.proofs.Common.{◌≡◌, ℕ, ◌+◌, ◌<◌, ◌≤◌, List, [], ◌∷◌, ◌++◌, length, drop, get_or, refl, Option, None}
use Rattle.std.proofs.Common.{Vec, Global, ap, sym, ◌∙◌, subst}
use Rattle.std.specs.Option.{option_map}
use Rattle.std.proofs.lemmas.List.{drop_all}
use Rattle.js_base.proofs.Lists.{none_in_two, none_in_three, none_in_four}
use Rattle.jif_tree.specs.declared.draft.ExprDraft.{ExprDraft}
use Rattle.jif_tree.specs.declared.draft.LabelDraft.{LabelDraft}
use Rattle.jif_tree.specs.declared.draft.NameDraft.{NameDraft}
use Rattle.jif_tree.specs.declared.draft.StmtKindDraft as kind
use Rattle.jif_tree.specs.declared.draft.StmtKindDraft.{StmtKindDraft}
use Rattle.jif_tree.specs.declared.draft.StmtDraft.{StmtDraft}
use Rattle.jif_tree.specs.declared.program.Expr.{Expr}
use Rattle.jif_tree.specs.declared.program.Stmt.{Stmt}
use Rattle.jif_tree.specs.declared.program.StmtKind as made_kind
use Rattle.jif_tree.specs.declared.program.StmtKind.{StmtKind}
use Rattle.jif_tree.specs.Trees.{Heading, BlockTree, done, branch, loop, expr_tree, statement_tree, block_tree}
use Rattle.jif_tree.specs.Trees.{head_of}
use Rattle.jif_grammar.proofs.DraftRows.{if_shape, while_shape}
use Rattle.jif_grammar.specs.DraftShapes.{Start, end_shape, branch_shape, loop_shape}
use Rattle.jif_grammar.specs.DraftShapes.{label_shape, name_shape, expr_shape, statement_shape, block_shape}
use Rattle.jif_resolve.specs.Places.{Setting, Place, after_statement, after_block}
use Rattle.jif_resolve.specs.Faults.{optional_label_faults, local_faults, expr_faults, block_faults}
use Rattle.jif_resolve.specs.First.{with_faults}
use Rattle.jif_resolve.specs.KnownNames.{IsCounted, left}
use Rattle.jif_resolve.specs.Walks.{behind}
use Rattle.jif_resolve.specs.Resolved.{heading_of, IsExprFor, IsBlockFor}
use Rattle.jif_resolve.specs.Making.{IsKindFor, IsStatementFor}
use Rattle.jif_resolve.proofs.Walks.{WalkedSoFar, at_place, next_faults, walk_counted, walk_goes_on, walk_left}
use Rattle.jif_resolve.proofs.Walks.{if_alone, while_alone}

-- ---- the loop

-- the statements before those of a tree
abbrev pub before : List Stmt → BlockTree → BlockTree
before [] tree = tree
before (statement ∷ statements) tree =
    statement_tree statement.kind (head_of statement) (before statements tree)

before_more : (statements : List Stmt) (last : Stmt) (tree : BlockTree) →
    before (statements ++ last ∷ []) tree ≡ before statements (before (last ∷ []) tree)
before_more [] last tree = refl
before_more (statement ∷ statements) last tree =
    ap (statement_tree statement.kind (head_of statement))
    (before_more statements last tree)

before_none : (statements : List Stmt) → before statements done ≡ block_tree statements
before_none [] = refl
before_none (statement ∷ statements) =
    ap (statement_tree statement.kind (head_of statement)) (before_none statements)

-- what is made of a block where the walk has come so far: whatever is made of what is left, with it the block is made
pub record MadeSoFar (s : Setting) (start : Place) (block : List StmtDraft) (i : ℕ) (p : Place)
    (statements : List Stmt) : Type 0 where
  pub clean : block_faults s p (block_shape (drop i block)) ≡ []
  pub place : behind p (block_shape (drop i block)) ≡ behind start (block_shape block)
  pub front : (tree : BlockTree) → IsBlockFor s p (block_shape (drop i block)) tree →
      IsBlockFor s start (block_shape block) (before statements tree)

pub made_begins : (s : Setting) (start : Place) (block : List StmtDraft) (statements : List Stmt) → statements ≡ [] →
    block_faults s start (block_shape block) ≡ [] → MadeSoFar s start block 0 start statements
made_begins s start block statements none clean = record {
  clean = clean;
  place = refl;
  front = λ tree is. subst (λ ys. IsBlockFor s start (block_shape block) (before ys tree)) (sym none) is;
}

walked : {s : Setting} {start : Place} {block : List StmtDraft} {i : ℕ} {p : Place} {statements : List Stmt} →
    block_faults s start (block_shape block) ≡ [] → MadeSoFar s start block i p statements →
    WalkedSoFar s start None block i p None
walked clean so_far = record { faults = ap (with_faults None) (so_far.clean ∙ sym clean); place = so_far.place }

-- the next statement has no fault, and none of those behind it has one
clean_step : {s : Setting} {start : Place} {block : List StmtDraft} {i : ℕ} {p : Place} {statements : List Stmt}
    (x : StmtDraft) → MadeSoFar s start block i p statements → i < length block → x ≡ get_or block i x →
    (block_faults s p (block_shape (x ∷ [])) ≡ [])
    × (block_faults s (behind p (block_shape (x ∷ []))) (block_shape (drop (i + 1) block)) ≡ [])
clean_step {s} {start} {block} {i} {p} {statements} x so_far less read =
    let rest = block_shape (drop (i + 1) block) in
    let here = block_faults s p (block_shape (x ∷ [])) in
    let all : here ++ block_faults s (behind p (block_shape (x ∷ []))) rest ≡ [] =
    sym (next_faults s p x.kind (record { at = x.at; line = x.line }) rest)
    ∙ ap (λ ys. block_faults s p (block_shape ys)) (sym (at_place block i x less read)) ∙ so_far.clean in
    none_in_two here (block_faults s (behind p (block_shape (x ∷ []))) rest) all

pub made_clean : {s : Setting} {start : Place} {block : List StmtDraft} {i : ℕ} {p : Place} {statements : List Stmt}
    (x : StmtDraft) → MadeSoFar s start block i p statements → i < length block → x ≡ get_or block i x →
    block_faults s p (block_shape (x ∷ [])) ≡ []
made_clean x so_far less read = (clean_step x so_far less read).0

pub made_counted : {s : Setting} {start : Place} {block : List StmtDraft} {i : ℕ} {p : Place} {statements : List Stmt}
    (x : StmtDraft) → block_faults s start (block_shape block) ≡ [] →
    IsCounted (after_block start (block_shape block)) →
    MadeSoFar s start block i p statements → i < length block → x ≡ get_or block i x →
    IsCounted (behind p (block_shape (x ∷ [])))
made_counted x clean counted so_far less read = walk_counted x counted (walked clean so_far) less read

pub made_more : {s : Setting} {start : Place} {block : List StmtDraft} {i : ℕ} {p : Place} {statements : List Stmt}
    (x : StmtDraft) (next : Place) (made : Stmt) → block_faults s start (block_shape block) ≡ [] →
    MadeSoFar s start block i p statements → i < length block → x ≡ get_or block i x →
    next ≡ behind p (block_shape (x ∷ [])) →
    IsStatementFor s p next (statement_shape x.kind (record { at = x.at; line = x.line })) made →
    MadeSoFar s start block (i + 1) next (statements ++ made ∷ [])
made_more {s} {start} {block} {i} {p} {statements} x next made clean so_far less read place is =
    let rest = block_shape (drop (i + 1) block) in
    let part = block_faults s p (block_shape (x ∷ [])) in
    let step = walk_goes_on x next (with_faults None part) (walked clean so_far) less read place refl in
    record {
      clean = ap (λ q. block_faults s q rest) place ∙ (clean_step x so_far less read).1;
      place = step.place;
      front = λ tree behind_is. subst (IsBlockFor s start (block_shape block)) (sym (before_more statements made tree))
          (so_far.front (before (made ∷ []) tree)
          (subst (λ ys. IsBlockFor s p (block_shape ys) (before (made ∷ []) tree)) (sym (at_place block i x less read))
          (is rest tree behind_is)));
    }

pub made_block : {s : Setting} {start : Place} {block : List StmtDraft} {i : ℕ} {p : Place} {statements : List Stmt} →
    MadeSoFar s start block i p statements → length block ≤ i →
    IsBlockFor s start (block_shape block) (block_tree statements)
made_block {s} {start} {block} {i} {p} {statements} so_far over =
    subst (IsBlockFor s start (block_shape block)) (before_none statements)
    (so_far.front done (subst (λ ys. IsBlockFor s p (block_shape ys) done) (sym (drop_all i block over)) refl))

pub made_left : {s : Setting} {start : Place} {block : List StmtDraft} {i : ℕ} {p : Place} {statements : List Stmt} →
    block_faults s start (block_shape block) ≡ [] → MadeSoFar s start block i p statements → length block ≤ i →
    left (length start.known) p ≡ after_block start (block_shape block)
made_left clean so_far over = walk_left (walked clean so_far) over

-- ---- statements with blocks

-- the parts of an `if` have no fault
pub clean_if : (s : Setting) (p : Place) (x : StmtDraft) (guard : ExprDraft) (ys zs : List StmtDraft) →
    block_shape (x ∷ []) ≡ if_alone x guard ys zs → block_faults s p (block_shape (x ∷ [])) ≡ [] →
    (expr_faults s p (expr_shape guard) ≡ []) × (block_faults s (after_statement p) (block_shape ys) ≡ [])
    × (block_faults s (after_block (after_statement p) (block_shape ys)) (block_shape zs) ≡ [])
clean_if s p x guard ys zs is none =
    let inside = after_statement p in
    let between = after_block inside (block_shape ys) in
    let parts = none_in_four (expr_faults s p (expr_shape guard)) (block_faults s inside (block_shape ys))
    (block_faults s between (block_shape zs)) [] (ap (block_faults s p) (sym is) ∙ none) in
    (parts.0, parts.1, parts.2)

pub clean_while : (s : Setting) (p : Place) (x : StmtDraft) (guard : ExprDraft) (ys : List StmtDraft) →
    block_shape (x ∷ []) ≡ while_alone x guard ys → block_faults s p (block_shape (x ∷ [])) ≡ [] →
    (expr_faults s p (expr_shape guard) ≡ []) × (block_faults s (after_statement p) (block_shape ys) ≡ [])
clean_while s p x guard ys is none =
    let parts = none_in_three (expr_faults s p (expr_shape guard))
    (block_faults s (after_statement p) (block_shape ys)) [] (ap (block_faults s p) (sym is) ∙ none) in
    (parts.0, parts.1)

-- the tree of a statement with blocks, as the law of trees says it
abbrev pub BranchTrees : Type 0
BranchTrees = (guard : Expr) (first second : Vec Stmt Global) (heading : Heading) (rest : BlockTree) →
    statement_tree (made_kind.If guard first second) heading rest
    ≡ branch heading (expr_tree guard) (block_tree first.items) (block_tree second.items) rest

abbrev pub LoopTrees : Type 0
LoopTrees = (guard : Expr) (body : Vec Stmt Global) (heading : Heading) (rest : BlockTree) →
    statement_tree (made_kind.While guard body) heading rest
    ≡ loop heading (expr_tree guard) (block_tree body.items) rest

pub if_made : BranchTrees → (s : Setting) (p q r next : Place) (k : StmtKindDraft) (guard : ExprDraft)
    (first second : Vec StmtDraft Global) (ys zs : List StmtDraft) (test : Expr) (one two : Vec Stmt Global) →
    k ≡ kind.If guard first second → ys ≡ first.items → zs ≡ second.items → q ≡ after_statement p →
    r ≡ after_block q (block_shape ys) → next ≡ after_block r (block_shape zs) →
    IsExprFor s p (expr_shape guard) (expr_tree test) → IsBlockFor s q (block_shape ys) (block_tree one.items) →
    IsBlockFor s r (block_shape zs) (block_tree two.items) →
    IsKindFor s p next (statement_shape k) (made_kind.If test one two)
if_made trees s p q r next k guard first second ys zs test one two is ys_are zs_are q_is r_is next_is test_is one_is
    two_is start rest behind_tree behind_is =
    let inside = after_statement p in
    let between = after_block inside (block_shape ys) in
    let between_is : r ≡ between = r_is ∙ ap (λ y. after_block y (block_shape ys)) q_is in
    let last_is : next ≡ after_block between (block_shape zs) =
    next_is ∙ ap (λ y. after_block y (block_shape zs)) between_is in
    let shape : statement_shape k start rest
    ≡ branch_shape start (expr_shape guard) (block_shape ys) (block_shape zs) rest =
    ap (λ y. statement_shape y start rest) is ∙ if_shape guard first second start rest
    ∙ ap (λ l. branch_shape start (expr_shape guard) (block_shape l) (block_shape second.items) rest) (sym ys_are)
    ∙ ap (λ l. branch_shape start (expr_shape guard) (block_shape ys) (block_shape l) rest) (sym zs_are) in
    let tree = branch (heading_of p start) (expr_tree test) (block_tree one.items) (block_tree two.items) behind_tree in
    let made : IsBlockFor s p (branch_shape start (expr_shape guard) (block_shape ys) (block_shape zs) rest) tree = (
      expr_tree test,
      block_tree one.items,
      block_tree two.items,
      behind_tree,
      refl,
      test_is,
      subst (λ y. IsBlockFor s y (block_shape ys) (block_tree one.items)) q_is one_is,
      subst (λ y. IsBlockFor s y (block_shape zs) (block_tree two.items)) between_is two_is,
      subst (λ y. IsBlockFor s y rest behind_tree) last_is behind_is,
    ) in
    subst (IsBlockFor s p (statement_shape k start rest))
    (sym (trees test one two (heading_of p start) behind_tree))
    (subst (λ b. IsBlockFor s p b tree) (sym shape) made)

pub while_made : LoopTrees → (s : Setting) (p q next : Place) (k : StmtKindDraft) (guard : ExprDraft)
    (body : Vec StmtDraft Global) (ys : List StmtDraft) (test : Expr) (one : Vec Stmt Global) →
    k ≡ kind.While guard body → ys ≡ body.items → q ≡ after_statement p → next ≡ after_block q (block_shape ys) →
    IsExprFor s p (expr_shape guard) (expr_tree test) → IsBlockFor s q (block_shape ys) (block_tree one.items) →
    IsKindFor s p next (statement_shape k) (made_kind.While test one)
while_made trees s p q next k guard body ys test one is ys_are q_is next_is test_is one_is start rest behind_tree
    behind_is =
    let inside = after_statement p in
    let last_is : next ≡ after_block inside (block_shape ys) =
    next_is ∙ ap (λ y. after_block y (block_shape ys)) q_is in
    let shape : statement_shape k start rest ≡ loop_shape start (expr_shape guard) (block_shape ys) rest =
    ap (λ y. statement_shape y start rest) is ∙ while_shape guard body start rest
    ∙ ap (λ l. loop_shape start (expr_shape guard) (block_shape l) rest) (sym ys_are) in
    let tree = loop (heading_of p start) (expr_tree test) (block_tree one.items) behind_tree in
    let made : IsBlockFor s p (loop_shape start (expr_shape guard) (block_shape ys) rest) tree = (
      expr_tree test,
      block_tree one.items,
      behind_tree,
      refl,
      test_is,
      subst (λ y. IsBlockFor s y (block_shape ys) (block_tree one.items)) q_is one_is,
      subst (λ y. IsBlockFor s y rest behind_tree) last_is behind_is,
    ) in
    subst (IsBlockFor s p (statement_shape k start rest)) (sym (trees test one (heading_of p start) behind_tree))
    (subst (λ b. IsBlockFor s p b tree) (sym shape) made)

-- ---- statements without blocks

pub kind_is : (s : Setting) (p next : Place) {k other : StmtKindDraft} (made : StmtKind) → k ≡ other →
    IsKindFor s p next (statement_shape other) made → IsKindFor s p next (statement_shape k) made
kind_is s p next made is = subst (λ y. IsKindFor s p next (statement_shape y) made) (sym is)

pub clean_declaration : (s : Setting) (p : Place) (x : StmtDraft) (label : Option LabelDraft) (name : NameDraft)
    (value : ExprDraft) → x.kind ≡ kind.Declare label name value → block_faults s p (block_shape (x ∷ [])) ≡ [] →
    expr_faults s p (expr_shape value) ≡ []
clean_declaration s p x label name value is none =
    let start : Start = record { at = x.at; line = x.line } in
    (none_in_four (optional_label_faults s.principals (option_map label_shape label))
    (local_faults s p (name_shape name)) (expr_faults s p (expr_shape value)) []
    (ap (λ k. block_faults s p (statement_shape k start end_shape)) (sym is) ∙ none)).2
