-- What a walk of a program collects: of each statement what is its own, and then what is in its blocks.
use Rattle.std.proofs.Common.{◌≡◌, ℕ, ◌<◌, ◌+◌, List, [], ◌∷◌, ◌++◌, length, take, get_or, Vec, Global}
use Rattle.std.proofs.Common.{refl, sym, ap, ◌∙◌}
use Rattle.std.proofs.Common.{◌≤◌, append_assoc, map}
use Rattle.std.specs.List.{flat_map}
use Rattle.std.proofs.lemmas.List.{take_all, take_more, flat_map_more}
use Rattle.std.proofs.lemmas.List.Folds.{flat_map-map}
use mathlib.Core.Former.{Count}
use Rattle.jif_tree.specs.declared.program.Stmt.{Stmt}
use Rattle.jif_tree.specs.declared.program.StmtKind.{StmtKind}
use Rattle.jif_tree.specs.declared.program.StmtKind as kind
use Rattle.jif_tree.specs.declared.program.Method.{Method}
use Rattle.jif_tree.specs.declared.program.Expr.{Expr}
use Rattle.jif_tree.specs.Trees.{Heading, BlockTree, statement_tree, row_tree, block_tree, MethodTree, method_tree}
use Rattle.jif_tree.specs.Trees.{head_of}
use Rattle.jif_tree.specs.Numbering.{block_lines}
use Rattle.front_end.specs.StatementLines.{kind_lines}

-- ---- nested blocks, which a statement keeps as rows

pub row_of_list : {n : _} (row : kind.Row_of-Stmt n) → row_tree row ≡ block_tree (kind.items-the_row-Stmt n row)
row_of_list kind.end_of-Stmt = refl
row_of_list (kind.more_of-Stmt id line what rest) = ap (statement_tree what _) (row_of_list rest)

-- the first and the second nested block of a statement
abbrev pub first_row : StmtKind → (n : Count) × kind.Row_of-Stmt n
first_row (kind.If' guard m first n second) = (_, first)
first_row (kind.While' guard m body) = (_, body)
first_row _ = (_, kind.end_of-Stmt)

abbrev pub second_row : StmtKind → (n : Count) × kind.Row_of-Stmt n
second_row (kind.If' guard m first n second) = (_, second)
second_row _ = (_, kind.end_of-Stmt)

-- What is collected of a statement that has blocks is what is collected of these.
pub record AreNested (of_block : BlockTree → List ℕ) (of_kind : StmtKind → List ℕ) : Type 0 where
  pub branch : (guard : Expr) (first second : Vec Stmt Global) → of_kind (kind.If guard first second)
      ≡ of_block (row_tree (first_row (kind.If guard first second)).1)
      ++ of_block (row_tree (second_row (kind.If guard first second)).1)
  pub loop : (guard : Expr) (body : Vec Stmt Global) →
      of_kind (kind.While guard body) ≡ of_block (row_tree (first_row (kind.While guard body)).1)

module _ (of_block : BlockTree → List ℕ) (of_kind : StmtKind → List ℕ) (nested : AreNested of_block of_kind) where
  row_parts : (n : Count) (row : kind.Row_of-Stmt n) (items : List Stmt) →
      kind.items-the_row-Stmt n row ≡ items → of_block (row_tree row) ≡ of_block (block_tree items)
  row_parts n row items is = ap of_block (row_of_list row ∙ ap block_tree is)

  -- what was added for both blocks of a branch
  pub if_parts : (what : StmtKind) (guard : Expr) (first second : Vec Stmt Global)
      (before between after firsts seconds : List ℕ) → what ≡ kind.If guard first second →
      firsts ≡ of_block (block_tree first.items) → seconds ≡ of_block (block_tree second.items) →
      between ≡ before ++ firsts → after ≡ between ++ seconds → after ≡ before ++ of_kind what
  if_parts what guard first second before between after firsts seconds is first_is second_is one two =
      let row = first_row (kind.If guard first second) in
      let other = second_row (kind.If guard first second) in
      let rows = row_parts row.0 row.1 first.items (kind.items_hidden-the_row-Stmt-0 first) in
      let others = row_parts other.0 other.1 second.items (kind.items_hidden-the_row-Stmt-0 second) in
      two ∙ ap (λ (xs : List ℕ). xs ++ seconds) one ∙ append_assoc before firsts seconds
      ∙ ap (λ (xs : List ℕ). before ++ (xs ++ seconds)) (first_is ∙ sym rows)
      ∙ ap (λ (xs : List ℕ). before ++ (of_block (row_tree row.1) ++ xs)) (second_is ∙ sym others)
      ∙ ap (λ (xs : List ℕ). before ++ xs) (sym (nested.branch guard first second))
      ∙ ap (λ (w : StmtKind). before ++ of_kind w) (sym is)

  -- what was added for the block of a loop
  pub while_parts : (what : StmtKind) (guard : Expr) (body : Vec Stmt Global)
      (before after bodies : List ℕ) → what ≡ kind.While guard body → bodies ≡ of_block (block_tree body.items) →
      after ≡ before ++ bodies → after ≡ before ++ of_kind what
  while_parts what guard body before after bodies is body_is one =
      let row = first_row (kind.While guard body) in
      let rows = row_parts row.0 row.1 body.items (kind.items_hidden-the_row-Stmt-0 body) in
      one ∙ ap (λ (xs : List ℕ). before ++ xs) (body_is ∙ sym rows)
      ∙ ap (λ (xs : List ℕ). before ++ xs) (sym (nested.loop guard body))
      ∙ ap (λ (w : StmtKind). before ++ of_kind w) (sym is)

-- one more item, of which two parts were added
pub parts_more : {X : Type 0} (part head tail : X → List ℕ) (before now pushed after : List ℕ) (xs : List X) (i : ℕ)
    (x : X) → ((y : X) → part y ≡ head y ++ tail y) → i < length xs → x ≡ get_or xs i x →
    now ≡ before ++ flat_map part (take i xs) → pushed ≡ now ++ head x → after ≡ pushed ++ tail x →
    after ≡ before ++ flat_map part (take (i + 1) xs)
parts_more {X} part head tail before now pushed after xs i x part_is within is now_is pushed_is after_is =
    let more : take (i + 1) xs ≡ take i xs ++ x ∷ [] =
    take_more xs i x within ∙ ap (λ (y : X). take i xs ++ y ∷ []) (sym is) in
    after_is ∙ ap (λ (ys : List ℕ). ys ++ tail x) pushed_is ∙ append_assoc now (head x) (tail x)
    ∙ ap (λ (ys : List ℕ). now ++ ys) (sym (part_is x))
    ∙ ap (λ (ys : List ℕ). ys ++ part x) now_is
    ∙ flat_map_more part before (take i xs) x
    ∙ ap (λ (ys : List X). before ++ flat_map part ys) (sym more)

-- the parts of all statements were added
pub whole_parts : (part : Stmt → List ℕ) (of_block : BlockTree → List ℕ) (before after : List ℕ) (block : List Stmt)
    (i : ℕ) → ((body : List Stmt) → of_block (block_tree body) ≡ flat_map part body) → length block ≤ i →
    after ≡ before ++ flat_map part (take i block) → after ≡ before ++ of_block (block_tree block)
whole_parts part of_block before after block i parts_are all is =
    is ∙ ap (λ (xs : List Stmt). before ++ flat_map part xs) (take_all i block all)
    ∙ ap (λ (xs : List ℕ). before ++ xs) (sym (parts_are block))

-- and those of all methods
pub program_parts : (of_method : MethodTree → List ℕ) (found : List ℕ) (methods : List Method) (i : ℕ) →
    length methods ≤ i → found ≡ flat_map (λ (method : Method). of_method (method_tree method)) (take i methods) →
    found ≡ flat_map of_method (map method_tree methods)
program_parts of_method found methods i all is =
    is ∙ ap (λ (xs : List Method). flat_map (λ (method : Method). of_method (method_tree method)) xs)
    (take_all i methods all)
    ∙ sym (flat_map-map of_method method_tree methods)

-- ---- lines

abbrev pub part_of : Stmt → List ℕ
part_of statement = statement.line ∷ kind_lines statement.kind

first_lines : (what : StmtKind) (heading : Heading) (rest : BlockTree) →
    block_lines (statement_tree what heading rest) ≡ heading.line ∷ (kind_lines what ++ block_lines rest)
first_lines (kind.Let x value) heading rest = refl
first_lines (kind.SetField field value) heading rest = refl
first_lines (kind.SetElement field index value) heading rest = refl
first_lines (kind.If' guard m first n second) heading rest = refl
first_lines (kind.While' guard m body) heading rest = refl
first_lines (kind.Call site called args into) heading rest = refl
first_lines (kind.Return value) heading rest = refl

pub lines_are : (body : List Stmt) → block_lines (block_tree body) ≡ flat_map part_of body
lines_are [] = refl
lines_are (s ∷ ss) =
    first_lines s.kind (head_of s) (block_tree ss)
    ∙ ap (λ (rest : List ℕ). s.line ∷ (kind_lines s.kind ++ rest)) (lines_are ss)

pub lines_nest : AreNested block_lines kind_lines
lines_nest = record { branch = λ guard first second. refl; loop = λ guard body. refl }
