-- What a walk of a program collects of marks: of each statement its own, and then those in its blocks.
use Rattle.std.proofs.Common.{◌≡◌, ◌<◌, ◌≤◌, ◌+◌, ℕ, Bool, List, [], ◌∷◌, ◌++◌, ◌||◌, length, take}
use Rattle.std.proofs.Common.{get_or, Vec, Global, refl, sym, ap, ◌∙◌, append_assoc, map}
use Rattle.std.specs.List.{flat_map, list_any}
use Rattle.std.proofs.lemmas.List.{take_all, take_more, flat_map_more}
use Rattle.std.proofs.lemmas.List.Folds.{flat_map-map}
use mathlib.Core.Former.{Count}
use Rattle.jif_tree.specs.declared.program.Expr.{Expr}
use Rattle.jif_tree.specs.declared.program.Method.{Method}
use Rattle.jif_tree.specs.declared.program.Stmt.{Stmt}
use Rattle.jif_tree.specs.declared.program.StmtKind.{StmtKind}
use Rattle.jif_tree.specs.declared.program.StmtKind as kind
use Rattle.jif_tree.specs.Trees.{Heading, BlockTree, statement_tree, row_tree, block_tree, head_of}
use Rattle.jif_tree.specs.Trees.{method_tree}
use Rattle.need_labels.specs.Needs.{releases}
use Rattle.releasing_statements.specs.Kinds.{own_exprs, kind_marks}
use Rattle.releasing_statements.specs.Marks.{block_marks, method_marks}

-- a test of what each is made into
pub any_of : {X Y : Type 0} (f : X → Y) (test : Y → Bool) (xs : List X) →
    list_any test (map f xs) ≡ list_any (λ x. test (f x)) xs
any_of f test [] = refl
any_of f test (x ∷ xs) = ap (λ (b : Bool). test (f x) || b) (any_of f test xs)

-- ---- nested blocks, which a statement keeps as rows

row_of_list : {n : _} (row : kind.Row_of-Stmt n) → row_tree row ≡ block_tree (kind.items-the_row-Stmt n row)
row_of_list kind.end_of-Stmt = refl
row_of_list (kind.more_of-Stmt id line what rest) = ap (statement_tree what _) (row_of_list rest)

-- the first and the second nested block of a statement
abbrev first_row : StmtKind → (n : Count) × kind.Row_of-Stmt n
first_row (kind.If' guard m first n second) = (_, first)
first_row (kind.While' guard m body) = (_, body)
first_row _ = (_, kind.end_of-Stmt)

abbrev second_row : StmtKind → (n : Count) × kind.Row_of-Stmt n
second_row (kind.If' guard m first n second) = (_, second)
second_row _ = (_, kind.end_of-Stmt)

row_marks : (n : Count) (row : kind.Row_of-Stmt n) (items : List Stmt) →
    kind.items-the_row-Stmt n row ≡ items → block_marks (row_tree row) ≡ block_marks (block_tree items)
row_marks n row items is = ap block_marks (row_of_list row ∙ ap block_tree is)

-- what was added for both blocks of a branch
pub if_marks : (what : StmtKind) (guard : Expr) (first second : Vec Stmt Global)
    (before between after firsts seconds : List Bool) → what ≡ kind.If guard first second →
    firsts ≡ block_marks (block_tree first.items) → seconds ≡ block_marks (block_tree second.items) →
    between ≡ before ++ firsts → after ≡ between ++ seconds → after ≡ before ++ kind_marks what
if_marks what guard first second before between after firsts seconds is first_is second_is one two =
    let row = first_row (kind.If guard first second) in
    let other = second_row (kind.If guard first second) in
    let rows = row_marks row.0 row.1 first.items (kind.items_hidden-the_row-Stmt-0 first) in
    let others = row_marks other.0 other.1 second.items (kind.items_hidden-the_row-Stmt-0 second) in
    two ∙ ap (λ (xs : List Bool). xs ++ seconds) one ∙ append_assoc before firsts seconds
    ∙ ap (λ (xs : List Bool). before ++ (xs ++ seconds)) (first_is ∙ sym rows)
    ∙ ap (λ (xs : List Bool). before ++ (block_marks (row_tree row.1) ++ xs)) (second_is ∙ sym others)
    ∙ ap (λ (w : StmtKind). before ++ kind_marks w) (sym is)

-- what was added for the block of a loop
pub while_marks : (what : StmtKind) (guard : Expr) (body : Vec Stmt Global) (before after bodies : List Bool) →
    what ≡ kind.While guard body → bodies ≡ block_marks (block_tree body.items) →
    after ≡ before ++ bodies → after ≡ before ++ kind_marks what
while_marks what guard body before after bodies is body_is one =
    let row = first_row (kind.While guard body) in
    let rows = row_marks row.0 row.1 body.items (kind.items_hidden-the_row-Stmt-0 body) in
    one ∙ ap (λ (xs : List Bool). before ++ xs) (body_is ∙ sym rows)
    ∙ ap (λ (w : StmtKind). before ++ kind_marks w) (sym is)

-- ---- in a row

-- one more item, of which a mark was added, and then more
pub marks_more : {X : Type 0} (part : X → List Bool) (own : X → Bool) (tail : X → List Bool)
    (before now pushed after : List Bool) (xs : List X) (i : ℕ) (x : X) →
    ((y : X) → part y ≡ own y ∷ tail y) → i < length xs → x ≡ get_or xs i x →
    now ≡ before ++ flat_map part (take i xs) → pushed ≡ now ++ own x ∷ [] → after ≡ pushed ++ tail x →
    after ≡ before ++ flat_map part (take (i + 1) xs)
marks_more {X} part own tail before now pushed after xs i x part_is within is now_is pushed_is after_is =
    let more : take (i + 1) xs ≡ take i xs ++ x ∷ [] =
    take_more xs i x within ∙ ap (λ (y : X). take i xs ++ y ∷ []) (sym is) in
    after_is ∙ ap (λ (ys : List Bool). ys ++ tail x) pushed_is ∙ append_assoc now (own x ∷ []) (tail x)
    ∙ ap (λ (ys : List Bool). now ++ ys) (sym (part_is x))
    ∙ ap (λ (ys : List Bool). ys ++ part x) now_is
    ∙ flat_map_more part before (take i xs) x
    ∙ ap (λ (ys : List X). before ++ flat_map part ys) (sym more)

-- ---- statements

abbrev pub marks_of : Stmt → List Bool
marks_of statement = list_any releases (own_exprs statement.kind) ∷ kind_marks statement.kind

first_marks : (what : StmtKind) (heading : Heading) (rest : BlockTree) →
    block_marks (statement_tree what heading rest)
    ≡ list_any releases (own_exprs what) ∷ (kind_marks what ++ block_marks rest)
first_marks (kind.Let x value) heading rest = refl
first_marks (kind.SetField field value) heading rest = refl
first_marks (kind.SetElement field index value) heading rest = refl
first_marks (kind.If' guard m first n second) heading rest = refl
first_marks (kind.While' guard m body) heading rest = refl
first_marks (kind.Call site called args into) heading rest = refl
first_marks (kind.Return value) heading rest = refl

marks_are : (body : List Stmt) → block_marks (block_tree body) ≡ flat_map marks_of body
marks_are [] = refl
marks_are (s ∷ ss) =
    first_marks s.kind (head_of s) (block_tree ss)
    ∙ ap (λ (rest : List Bool). marks_of s ++ rest) (marks_are ss)

-- those of all statements of a block were added
pub whole_marks : (before after : List Bool) (block : List Stmt) (i : ℕ) → length block ≤ i →
    after ≡ before ++ flat_map marks_of (take i block) → after ≡ before ++ block_marks (block_tree block)
whole_marks before after block i all is =
    is ∙ ap (λ (xs : List Stmt). before ++ flat_map marks_of xs) (take_all i block all)
    ∙ ap (λ (xs : List Bool). before ++ xs) (sym (marks_are block))

-- and those of all methods
pub program_marks : (found : List Bool) (methods : List Method) (i : ℕ) → length methods ≤ i →
    found ≡ flat_map (λ (method : Method). method_marks (method_tree method)) (take i methods) →
    found ≡ flat_map method_marks (map method_tree methods)
program_marks found methods i all is =
    is ∙ ap (λ (xs : List Method). flat_map (λ (method : Method). method_marks (method_tree method)) xs)
    (take_all i methods all)
    ∙ sym (flat_map-map method_marks method_tree methods)
