-- What statements with nested blocks do, by the statements of these blocks.
use Rattle.std.proofs.Common.{◌≡◌, ℕ, Bool, List, ◌∷◌, Vec, Global, refl, sym, ap, ◌∙◌}
use Rattle.std.specs.Prelude.{if◌then◌else◌}
use mathlib.Core.Former.{Count}
use Rattle.jif_tree.specs.declared.program.Program.{Program}
use Rattle.jif_tree.specs.declared.program.Stmt.{Stmt}
use Rattle.jif_tree.specs.declared.program.StmtKind.{StmtKind}
use Rattle.jif_tree.specs.declared.program.StmtKind as kind
use Rattle.jif_tree.specs.declared.program.Expr.{Expr}
use Rattle.jif_tree.specs.Operators.{is_true}
use Rattle.jif_tree.specs.SourceRun.{statements_of}
use Rattle.source_run.specs.declared.cells.Cell.{Cell}
use Rattle.source_run.specs.Machine.{Work, MachineShape, with_block, value_at_frame, after_statement}

-- the statements of a nested block, which a statement keeps as a row, are those of the list
row_of_list : {n : _} (row : kind.Row_of-Stmt n) → statements_of row ≡ kind.items-the_row-Stmt n row
row_of_list kind.end_of-Stmt = refl
row_of_list (kind.more_of-Stmt id line what rest) =
    ap (λ (xs : List Stmt). record { id = id; line = line; kind = what } ∷ xs) (row_of_list rest)

-- the first and the second nested block of a statement
abbrev pub first_row : StmtKind → (n : Count) × kind.Row_of-Stmt n
first_row (kind.If' guard m first n second) = (_, first)
first_row (kind.While' guard m body) = (_, body)
first_row _ = (_, kind.end_of-Stmt)

abbrev pub second_row : StmtKind → (n : Count) × kind.Row_of-Stmt n
second_row (kind.If' guard m first n second) = (_, second)
second_row _ = (_, kind.end_of-Stmt)

pub first_items : (guard : Expr) (first second : Vec Stmt Global)
    → statements_of (first_row (kind.If guard first second)).1 ≡ first.items
first_items guard first second =
    row_of_list (first_row (kind.If guard first second)).1 ∙ kind.items_hidden-the_row-Stmt-0 first

pub second_items : (guard : Expr) (first second : Vec Stmt Global)
    → statements_of (second_row (kind.If guard first second)).1 ≡ second.items
second_items guard first second =
    row_of_list (second_row (kind.If guard first second)).1 ∙ kind.items_hidden-the_row-Stmt-0 second

pub body_items : (guard : Expr) (body : Vec Stmt Global)
    → statements_of (first_row (kind.While guard body)).1 ≡ body.items
body_items guard body =
    row_of_list (first_row (kind.While guard body)).1 ∙ kind.items_hidden-the_row-Stmt-0 body

-- what a branch leaves
pub after_if : (program : Program) (blank : ℕ → List Cell) (m : MachineShape) (frame : ℕ)
    (guard : Expr) (first second : Vec Stmt Global)
    (behind again : List Work) → after_statement program blank m frame (kind.If guard first second) behind again
    ≡ record {
      tasks = with_block frame (if is_true (value_at_frame m frame guard) then first.items else second.items) behind;
      frames = m.frames;
      store = m.store;
    }
after_if program blank m frame guard first second behind again =
    let left : List Stmt → List Stmt → MachineShape = λ xs ys. record {
      tasks = with_block frame (if is_true (value_at_frame m frame guard) then xs else ys) behind;
      frames = m.frames;
      store = m.store;
    } in
    ap (λ (xs : List Stmt). left xs (statements_of (second_row (kind.If guard first second)).1))
    (first_items guard first second)
    ∙ ap (λ (ys : List Stmt). left first.items ys) (second_items guard first second)

-- what a loop leaves
pub after_while : (program : Program) (blank : ℕ → List Cell) (m : MachineShape) (frame : ℕ)
    (guard : Expr) (body : Vec Stmt Global)
    (behind again : List Work) → after_statement program blank m frame (kind.While guard body) behind again
    ≡ record {
      tasks = if is_true (value_at_frame m frame guard) then with_block frame body.items again else behind;
      frames = m.frames;
      store = m.store;
    }
after_while program blank m frame guard body behind again =
    let left : List Stmt → MachineShape = λ xs. record {
      tasks = if is_true (value_at_frame m frame guard) then with_block frame xs again else behind;
      frames = m.frames;
      store = m.store;
    } in
    ap left (body_items guard body)

-- what the machine has after it chose one of two blocks
pub branch_leaves : (program : Program) (blank : ℕ → List Cell) (m : MachineShape) (frame : ℕ)
    (what : StmtKind) (guard : Expr)
    (first second : Vec Stmt Global) (behind again tasks : List Work) (truth : Bool) (xs ys : List Stmt)
    → what ≡ kind.If guard first second → truth ≡ is_true (value_at_frame m frame guard)
    → xs ≡ first.items → ys ≡ second.items → tasks ≡ with_block frame (if truth then xs else ys) behind
    → let left : MachineShape = record { tasks = tasks; frames = m.frames; store = m.store } in
    left ≡ after_statement program blank m frame what behind again
branch_leaves program blank m frame what guard first second behind again tasks truth xs ys is test one two left =
    let machine : List Work → MachineShape = λ ts. record { tasks = ts; frames = m.frames; store = m.store } in
    rw is (ap machine (left ∙ ap (λ (b : Bool). with_block frame (if b then xs else ys) behind) test
    ∙ ap (λ (zs : List Stmt). with_block frame (if is_true (value_at_frame m frame guard) then zs else ys) behind) one
    ∙ ap (λ (zs : List Stmt). with_block frame (if is_true (value_at_frame m frame guard) then first.items else zs)
    behind) two) ∙ sym (after_if program blank m frame guard first second behind again))

-- what the machine has after it went into the body of a loop, or behind it
pub loop_leaves : (program : Program) (blank : ℕ → List Cell) (m : MachineShape) (frame : ℕ)
    (what : StmtKind) (guard : Expr)
    (body : Vec Stmt Global) (behind again tasks : List Work) (truth : Bool) (xs : List Stmt)
    → what ≡ kind.While guard body → truth ≡ is_true (value_at_frame m frame guard)
    → xs ≡ body.items → tasks ≡ (if truth then with_block frame xs again else behind)
    → let left : MachineShape = record { tasks = tasks; frames = m.frames; store = m.store } in
    left ≡ after_statement program blank m frame what behind again
loop_leaves program blank m frame what guard body behind again tasks truth xs is test one left =
    let machine : List Work → MachineShape = λ ts. record { tasks = ts; frames = m.frames; store = m.store } in
    rw is (ap machine (left ∙ ap (λ (b : Bool). if b then with_block frame xs again else behind) test
    ∙ ap (λ (zs : List Stmt). if is_true (value_at_frame m frame guard) then with_block frame zs again else behind) one)
    ∙ sym (after_while program blank m frame guard body behind again))
