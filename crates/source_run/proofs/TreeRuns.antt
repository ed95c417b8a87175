-- A run depends on the tree of its program alone: each configuration has a state over trees, which takes the same
-- steps.
use Rattle.std.proofs.Common.{◌≡◌, ℕ, zero, suc, Bool, true, false, ℤ, pos, List, [], ◌∷◌, ◌++◌}
use Rattle.std.proofs.Common.{length, map, Option, Some, None, refl, sym, ap, ◌∙◌}
use Rattle.std.specs.Prelude.{slice_get, if◌then◌else◌}
use Rattle.std.specs.Option.{option_map}
use Rattle.std.proofs.lemmas.List.{map-append}
use Rattle.std.proofs.lemmas.Option.{slice_get-map}
use Rattle.js_base.specs.declared.ids.VarId.{VarId}
use Rattle.js_base.specs.declared.ids.StmtId.{StmtId}
use Rattle.jif_tree.specs.declared.program.Program.{Program}
use Rattle.jif_tree.specs.declared.program.Method.{Method}
use Rattle.jif_tree.specs.declared.program.Stmt.{Stmt}
use Rattle.jif_tree.specs.declared.program.StmtKind.{StmtKind}
use Rattle.jif_tree.specs.declared.program.StmtKind as kind
use Rattle.jif_tree.specs.declared.program.Expr.{Expr}
use Rattle.jif_tree.specs.declared.program.Expr as expr
use Rattle.jif_tree.specs.Operators.{is_true, binary_value, negation, inversion}
use Rattle.jif_tree.specs.Store.{element_at, row_of, store_after_write}
use Rattle.jif_tree.specs.SourceRun.{Call, Item, run, keep, Configuration, variable, calls_after, value_of, operands}
use Rattle.jif_tree.specs.SourceRun.{statements_of, method_at, body_of, params_of, result_of, passed, kept}
use Rattle.jif_tree.specs.SourceRun.{after_call, after_result, calls_after_return, executed, after_item}
use Rattle.jif_tree.specs.SourceRun.{after_steps, main_body, configuration_at_start}
use Rattle.jif_tree.specs.SourceRun.{prefix, IsAtEnd, HasLength}
use Rattle.jif_tree.specs.Trees.{ExprTree, number, local, scalar, element, inverted, negated, binary, declassified}
use Rattle.jif_tree.specs.Trees.{endorsed, Heading, BlockTree, done, set_local, set_field, set_element, branch, loop}
use Rattle.jif_tree.specs.Trees.{call, give_back, MethodTree, ProgramTree, expr_tree, statement_tree, row_tree}
use Rattle.jif_tree.specs.Trees.{block_tree, method_tree, program_tree, head_of}
use Rattle.source_run.specs.Alike.{RunAlike}

-- ---- a run over trees

-- what is still to be done: a statement with none after it, or the assignment behind a call
data TreeItem : Type 0 where
  run_tree : (number : ℕ) (statement : BlockTree) → TreeItem
  keep_tree : (number : ℕ) (into result : VarId) → TreeItem

record TreeState : Type 0 where
  pub store : List (List ℤ)
  pub calls : List Call
  pub pending : List TreeItem

abbrev tree_value : List (List ℤ) → List Call → ℕ → ExprTree → ℤ
tree_value store calls n (number value) = value
tree_value store calls n (local x) = variable calls n x.0
tree_value store calls n (scalar field) = element_at (row_of store field.0) (pos 0)
tree_value store calls n (element field index) = element_at (row_of store field.0) (tree_value store calls n index)
tree_value store calls n (inverted operand) = inversion (tree_value store calls n operand)
tree_value store calls n (negated operand) = negation (tree_value store calls n operand)
tree_value store calls n (binary operator left right) =
    binary_value operator (tree_value store calls n left) (tree_value store calls n right)
tree_value store calls n (declassified inner label) = tree_value store calls n inner
tree_value store calls n (endorsed inner label) = tree_value store calls n inner

-- the statements of a block, each with none after it
abbrev singles : BlockTree → List BlockTree
singles done = []
singles (set_local heading x value rest) = set_local heading x value done ∷ singles rest
singles (set_field heading field value rest) = set_field heading field value done ∷ singles rest
singles (set_element heading field index value rest) = set_element heading field index value done ∷ singles rest
singles (branch heading guard first second rest) = branch heading guard first second done ∷ singles rest
singles (loop heading guard body rest) = loop heading guard body done ∷ singles rest
singles (call heading site method args into rest) = call heading site method args into done ∷ singles rest
singles (give_back heading value rest) = give_back heading value done ∷ singles rest

abbrev tree_body : Option MethodTree → BlockTree
tree_body None = done
tree_body (Some method) = method.body

abbrev tree_params : Option MethodTree → List VarId
tree_params None = []
tree_params (Some method) = method.params

abbrev tree_result : Option MethodTree → Option VarId
tree_result None = None
tree_result (Some method) = method.result

-- the assignment behind a call, where there is one
abbrev tree_kept : ℕ → Option VarId → Option VarId → List TreeItem
tree_kept n (Some into) (Some result) = keep_tree n into result ∷ []
tree_kept n into result = []

abbrev tree_call : ProgramTree → TreeState → ℕ → ℕ → List ℤ → Option VarId → List TreeItem → TreeState
tree_call tree s n method values into behind =
    let called = slice_get tree.methods method in
    record {
      store = s.store;
      calls = s.calls ++ record { caller = n; method = method; values = passed (tree_params called) values } ∷ [];
      pending = map (run_tree (length s.calls)) (singles (tree_body called)) ++ tree_kept n into (tree_result called)
          ++ behind;
    }

abbrev result_left : List Call → Call → Option VarId → ℤ → List Call
result_left calls made None value = calls
result_left calls made (Some result) value = calls_after calls made.caller result.0 value

abbrev tree_return : ProgramTree → List Call → Option Call → ℤ → List Call
tree_return tree calls None value = calls
tree_return tree calls (Some made) value =
    result_left calls made (tree_result (slice_get tree.methods made.method)) value

abbrev tree_executed : ProgramTree → TreeState → ℕ → BlockTree → List TreeItem → TreeState
tree_executed tree s n done behind = s
tree_executed tree s n (set_local heading x value rest) behind =
    record s { calls = calls_after s.calls n x.0 (tree_value s.store s.calls n value); pending = behind }
tree_executed tree s n (set_field heading field value rest) behind = record s {
  store = store_after_write s.store field.0 (pos 0) (tree_value s.store s.calls n value);
  pending = behind;
}
tree_executed tree s n (set_element heading field index value rest) behind = record s {
  store = store_after_write s.store field.0 (tree_value s.store s.calls n index)
      (tree_value s.store s.calls n value);
  pending = behind;
}
tree_executed tree s n (branch heading guard first second rest) behind = record s {
  pending = (if is_true (tree_value s.store s.calls n guard) then map (run_tree n) (singles first)
      else map (run_tree n) (singles second)) ++ behind;
}
tree_executed tree s n (loop heading guard body rest) behind = record s {
  pending = if is_true (tree_value s.store s.calls n guard)
      then map (run_tree n) (singles body) ++ run_tree n (loop heading guard body done) ∷ behind else behind;
}
tree_executed tree s n (call heading site method args into rest) behind =
    tree_call tree s n method.0 (map (tree_value s.store s.calls n) args) into behind
tree_executed tree s n (give_back heading value rest) behind = record s {
  calls = tree_return tree s.calls (slice_get s.calls n) (tree_value s.store s.calls n value);
  pending = behind;
}

abbrev after_tree_item : ProgramTree → TreeState → List TreeItem → TreeState
after_tree_item tree s [] = s
after_tree_item tree s (run_tree n statement ∷ behind) = tree_executed tree s n statement behind
after_tree_item tree s (keep_tree n into result ∷ behind) =
    record s { calls = calls_after s.calls n into.0 (variable s.calls n result.0); pending = behind }

after_tree_steps : ProgramTree → ℕ → TreeState → TreeState
after_tree_steps tree zero s = s
after_tree_steps tree (suc n) s = let before = after_tree_steps tree n s in after_tree_item tree before before.pending

-- ---- the state of a configuration

abbrev statement_alone : Stmt → BlockTree
statement_alone statement =
    statement_tree statement.kind (head_of statement) done

abbrev item_tree : Item → TreeItem
item_tree (run n statement) = run_tree n (statement_alone statement)
item_tree (keep n into result) = keep_tree n into result

abbrev state_of : Configuration → TreeState
state_of c = record { store = c.store; calls = c.calls; pending = map item_tree c.pending }

-- ---- values

same_value : (c : Configuration) (n : ℕ) (e : Expr) → value_of c n e ≡ tree_value c.store c.calls n (expr_tree e)
same_value c n (expr.Number value) = refl
same_value c n (expr.Local x) = refl
same_value c n (expr.Scalar field) = refl
same_value c n (expr.Element' field p index) =
    ap (λ (i : ℤ). element_at (row_of c.store field.0) i) (same_value c n index)
same_value c n (expr.Not' p operand) = ap inversion (same_value c n operand)
same_value c n (expr.Negate' p operand) = ap negation (same_value c n operand)
same_value c n (expr.Binary' operator p left q right) =
    ap (λ (v : ℤ). binary_value operator v (value_of c n right)) (same_value c n left)
    ∙ ap (λ (v : ℤ). binary_value operator (tree_value c.store c.calls n (expr_tree left)) v) (same_value c n right)
same_value c n (expr.Declassify' p inner label) = same_value c n inner
same_value c n (expr.Endorse' p inner label) = same_value c n inner

pub same_values : (c : Configuration) (n : ℕ) (es : List Expr)
    → map (value_of c n) es ≡ map (tree_value c.store c.calls n) (map expr_tree es)
same_values c n [] = refl
same_values c n (e ∷ es) =
    ap (λ (v : ℤ). v ∷ map (value_of c n) es) (same_value c n e)
    ∙ ap (λ (vs : List ℤ). tree_value c.store c.calls n (expr_tree e) ∷ vs) (same_values c n es)

-- ---- blocks

singles-statement : (what : StmtKind) (heading : Heading) (rest : BlockTree)
    → singles (statement_tree what heading rest) ≡ statement_tree what heading done ∷ singles rest
singles-statement (kind.Let x value) heading rest = refl
singles-statement (kind.SetField field value) heading rest = refl
singles-statement (kind.SetElement field index value) heading rest = refl
singles-statement (kind.If' guard m first n second) heading rest = refl
singles-statement (kind.While' guard m body) heading rest = refl
singles-statement (kind.Call site method args into) heading rest = refl
singles-statement (kind.Return value) heading rest = refl

singles-block : (statements : List Stmt) → map statement_alone statements ≡ singles (block_tree statements)
singles-block [] = refl
singles-block (statement ∷ statements) =
    ap (λ (ts : List BlockTree). statement_alone statement ∷ ts) (singles-block statements)
    ∙ sym (singles-statement statement.kind (head_of statement)
    (block_tree statements))

singles-row : {n : _} (row : kind.Row_of-Stmt n) → map statement_alone (statements_of row) ≡ singles (row_tree row)
singles-row kind.end_of-Stmt = refl
singles-row (kind.more_of-Stmt id line what rest) =
    ap (λ (ts : List BlockTree). statement_tree what (record { id = id; line = line }) done ∷ ts) (singles-row rest)
    ∙ sym (singles-statement what (record { id = id; line = line }) (row_tree rest))

run_each : (n : ℕ) (statements : List Stmt)
    → map item_tree (map (run n) statements) ≡ map (run_tree n) (map statement_alone statements)
run_each n [] = refl
run_each n (statement ∷ statements) =
    ap (λ (items : List TreeItem). run_tree n (statement_alone statement) ∷ items) (run_each n statements)

-- the items of statements before others
block_items : (n : ℕ) (statements : List Stmt) (trees : List BlockTree) (behind : List Item)
    → map statement_alone statements ≡ trees
    → map item_tree (map (run n) statements ++ behind) ≡ map (run_tree n) trees ++ map item_tree behind
block_items n statements trees behind are =
    map-append item_tree (map (run n) statements) behind
    ∙ ap (λ (items : List TreeItem). items ++ map item_tree behind)
    (run_each n statements ∙ ap (map (run_tree n)) are)

branch_items : (truth : Bool) (n : ℕ) (xs ys : List Stmt) (ts us : List BlockTree) (behind : List Item)
    → map statement_alone xs ≡ ts → map statement_alone ys ≡ us
    → map item_tree ((if truth then map (run n) xs else map (run n) ys) ++ behind)
    ≡ (if truth then map (run_tree n) ts else map (run_tree n) us) ++ map item_tree behind
branch_items true n xs ys ts us behind one two = block_items n xs ts behind one
branch_items false n xs ys ts us behind one two = block_items n ys us behind two

loop_items : (truth : Bool) (n : ℕ) (xs : List Stmt) (ts : List BlockTree) (again : Item) (behind : List Item)
    → map statement_alone xs ≡ ts
    → map item_tree (if truth then map (run n) xs ++ again ∷ behind else behind)
    ≡ (if truth then map (run_tree n) ts ++ item_tree again ∷ map item_tree behind else map item_tree behind)
loop_items true n xs ts again behind are = block_items n xs ts (again ∷ behind) are
loop_items false n xs ts again behind are = refl

-- ---- methods

abbrev called_tree : Program → ℕ → Option MethodTree
called_tree program method = slice_get (program_tree program).methods method

method_is : (program : Program) (method : ℕ)
    → option_map method_tree (method_at program method) ≡ called_tree program method
method_is program method = sym (slice_get-map method_tree program.methods.items method)

body_is : (method : Option Method)
    → map statement_alone (body_of method) ≡ singles (tree_body (option_map method_tree method))
body_is None = refl
body_is (Some method) = singles-block method.body.items

params_are : (method : Option Method) → params_of method ≡ tree_params (option_map method_tree method)
params_are None = refl
params_are (Some method) = refl

result_is : (method : Option Method) → result_of method ≡ tree_result (option_map method_tree method)
result_is None = refl
result_is (Some method) = refl

body_at : (program : Program) (method : ℕ)
    → map statement_alone (body_of (method_at program method)) ≡ singles (tree_body (called_tree program method))
body_at program method =
    body_is (method_at program method) ∙ ap (λ (m : Option MethodTree). singles (tree_body m))
    (method_is program method)

params_at : (program : Program) (method : ℕ)
    → params_of (method_at program method) ≡ tree_params (called_tree program method)
params_at program method = params_are (method_at program method) ∙ ap tree_params (method_is program method)

result_at : (program : Program) (method : ℕ)
    → result_of (method_at program method) ≡ tree_result (called_tree program method)
result_at program method = result_is (method_at program method) ∙ ap tree_result (method_is program method)

kept_items : (n : ℕ) (into result : Option VarId) → map item_tree (kept n into result) ≡ tree_kept n into result
kept_items n None result = refl
kept_items n (Some into) None = refl
kept_items n (Some into) (Some result) = refl

-- ---- each kind of statement

abbrev state : List (List ℤ) → List Call → List TreeItem → TreeState
state store calls pending = record { store = store; calls = calls; pending = pending }

-- what a call leaves pending
call_items : (program : Program) (n place method : ℕ) (into : Option VarId) (behind : List Item)
    → map item_tree (map (run place) (body_of (method_at program method))
    ++ kept n into (result_of (method_at program method)) ++ behind)
    ≡ map (run_tree place) (singles (tree_body (called_tree program method)))
    ++ tree_kept n into (tree_result (called_tree program method)) ++ map item_tree behind
call_items program n place method into behind =
    let body = body_of (method_at program method) in
    let result = result_of (method_at program method) in
    let trees = map (run_tree place) (singles (tree_body (called_tree program method))) in
    map-append item_tree (map (run place) body ++ kept n into result) behind
    ∙ ap (λ (items : List TreeItem). items ++ map item_tree behind)
    (block_items place body (singles (tree_body (called_tree program method))) (kept n into result)
    (body_at program method)
    ∙ (ap (λ (items : List TreeItem). trees ++ items) (kept_items n into result)
    ∙ ap (λ (r : Option VarId). trees ++ tree_kept n into r) (result_at program method)))

call_is : (program : Program) (c : Configuration) (n method : ℕ) (values others : List ℤ) (into : Option VarId)
    (behind : List Item) → values ≡ others
    → state_of (after_call program c n method values into behind)
    ≡ tree_call (program_tree program) (state_of c) n method others into (map item_tree behind)
call_is program c n method values others into behind same =
    let made : List VarId → List ℤ → List Call = λ params vs.
    c.calls ++ record { caller = n; method = method; values = passed params vs } ∷ [] in
    let params = params_of (method_at program method) in
    let left : List TreeItem = map (run_tree (length c.calls)) (singles (tree_body (called_tree program method)))
    ++ tree_kept n into (tree_result (called_tree program method)) ++ map item_tree behind in
    ap (state c.store (made params values)) (call_items program n (length c.calls) method into behind)
    ∙ (ap (λ (ps : List VarId). state c.store (made ps values) left) (params_at program method)
    ∙ ap (λ (vs : List ℤ). state c.store (made (tree_params (called_tree program method)) vs) left) same)

result_left_is : (c : Configuration) (made : Call) (result : Option VarId) (value : ℤ)
    → after_result c made result value ≡ result_left c.calls made result value
result_left_is c made None value = refl
result_left_is c made (Some result) value = refl

pub return_from : (program : Program) (c : Configuration) (n : ℕ) (value : ℤ) (found : Option Call)
    → slice_get c.calls n ≡ found
    → calls_after_return program c n value ≡ tree_return (program_tree program) c.calls found value
return_from program c n value None is = rw is refl
return_from program c n value (Some made) is =
    rw is (result_left_is c made (result_of (method_at program made.method)) value
    ∙ ap (λ (r : Option VarId). result_left c.calls made r value) (result_at program made.method))

executes : (program : Program) (c : Configuration) (n : ℕ) (id : StmtId) (line : ℕ) (what : StmtKind)
    (behind : List Item)
    → let statement : Stmt = record { id = id; line = line; kind = what } in
    state_of (executed program c n (run n statement) what (map (value_of c n) (operands what)) behind)
    ≡ tree_executed (program_tree program) (state_of c) n (statement_alone statement) (map item_tree behind)
executes program c n id line (kind.Let x value) behind =
    ap (λ (v : ℤ). state c.store (calls_after c.calls n x.0 v) (map item_tree behind)) (same_value c n value)
executes program c n id line (kind.SetField field value) behind =
    ap (λ (v : ℤ). state (store_after_write c.store field.0 (pos 0) v) c.calls (map item_tree behind))
    (same_value c n value)
executes program c n id line (kind.SetElement field index value) behind =
    ap (λ (i : ℤ). state (store_after_write c.store field.0 i (value_of c n value)) c.calls (map item_tree behind))
    (same_value c n index)
    ∙ ap (λ (v : ℤ). state (store_after_write c.store field.0 (tree_value c.store c.calls n (expr_tree index)) v)
    c.calls (map item_tree behind)) (same_value c n value)
executes program c n id line (kind.If' guard m first k second) behind =
    ap (state c.store c.calls) (branch_items (is_true (value_of c n guard)) n (statements_of first)
    (statements_of second) (singles (row_tree first)) (singles (row_tree second)) behind (singles-row first)
    (singles-row second)
    ∙ ap (λ (v : ℤ). (if is_true v then map (run_tree n) (singles (row_tree first))
    else map (run_tree n) (singles (row_tree second))) ++ map item_tree behind) (same_value c n guard))
executes program c n id line (kind.While' guard m body) behind =
    let statement : Stmt = record { id = id; line = line; kind = kind.While' guard m body } in
    ap (state c.store c.calls) (loop_items (is_true (value_of c n guard)) n (statements_of body)
    (singles (row_tree body)) (run n statement) behind (singles-row body)
    ∙ ap (λ (v : ℤ). if is_true v then map (run_tree n) (singles (row_tree body))
    ++ run_tree n (statement_alone statement) ∷ map item_tree behind else map item_tree behind)
    (same_value c n guard))
executes program c n id line (kind.Call site method args into) behind =
    call_is program c n method.0 (map (value_of c n) args.items)
    (map (tree_value c.store c.calls n) (map expr_tree args.items)) into behind (same_values c n args.items)
executes program c n id line (kind.Return value) behind =
    ap (λ (calls : List Call). state c.store calls (map item_tree behind))
    (return_from program c n (value_of c n value) (slice_get c.calls n) refl
    ∙ ap (tree_return (program_tree program) c.calls (slice_get c.calls n)) (same_value c n value))

-- ---- a run

item_steps : (program : Program) (c : Configuration) (items : List Item)
    → state_of (after_item program c items)
    ≡ after_tree_item (program_tree program) (state_of c) (map item_tree items)
item_steps program c [] = refl
item_steps program c (run n statement ∷ behind) =
    executes program c n statement.id statement.line statement.kind behind
item_steps program c (keep n into result ∷ behind) = refl

steps_are : (program : Program) (c : Configuration) (n : ℕ)
    → state_of (after_steps program n c) ≡ after_tree_steps (program_tree program) n (state_of c)
unfolding after_tree_steps
steps_are program c zero = refl
steps_are program c (suc n) =
    let before = after_steps program n c in
    item_steps program before before.pending
    ∙ ap (λ (s : TreeState). after_tree_item (program_tree program) s s.pending) (steps_are program c n)

tree_start : ProgramTree → List (List ℤ) → TreeState
tree_start tree store = record {
  store = store;
  calls = record { caller = 0; method = tree.main.0; values = λ x. pos 0 } ∷ [];
  pending = map (run_tree 0) (singles (tree_body (slice_get tree.methods tree.main.0)));
}

start_is : (program : Program) (store : List (List ℤ))
    → state_of (configuration_at_start program store) ≡ tree_start (program_tree program) store
unfolding tree_start
start_is program store =
    ap (state store (record { caller = 0; method = program.main.0; values = λ x. pos 0 } ∷ []))
    (run_each 0 (main_body program) ∙ ap (map (run_tree 0)) (body_at program program.main.0))

prefix_is : (program : Program) (store : List (List ℤ)) (n : ℕ)
    → state_of (prefix program store n)
    ≡ after_tree_steps (program_tree program) n (tree_start (program_tree program) store)
prefix_is program store n =
    steps_are program (configuration_at_start program store) n
    ∙ ap (after_tree_steps (program_tree program) n) (start_is program store)

-- ---- two programs with the same tree

same_states : (program other : Program) → program_tree program ≡ program_tree other → (store : List (List ℤ)) (n : ℕ)
    → state_of (prefix program store n) ≡ state_of (prefix other store n)
same_states program other same store n =
    prefix_is program store n
    ∙ (ap (λ (tree : ProgramTree). after_tree_steps tree n (tree_start tree store)) same
    ∙ sym (prefix_is other store n))

none_left : (items others : List Item) → map item_tree items ≡ map item_tree others → items ≡ [] → others ≡ []
none_left items [] same none = refl
none_left [] (other ∷ others) same none = cc
none_left (item ∷ items) others same none = cc

ends : (c d : Configuration) → state_of c ≡ state_of d → IsAtEnd c → IsAtEnd d
ends c d same = none_left c.pending d.pending (ap (λ (s : TreeState). s.pending) same)

has_length : (program other : Program) → program_tree program ≡ program_tree other → (store : List (List ℤ)) (n : ℕ)
    → HasLength program store n → HasLength other store n
has_length program other same store n has = record {
  ends = ends (prefix program store n) (prefix other store n) (same_states program other same store n) has.ends;
  not_before = λ m below at_end. has.not_before m below (ends (prefix other store m) (prefix program store m)
      (same_states other program (sym same) store m) at_end);
}

pub same_runs : (program other : Program) → program_tree program ≡ program_tree other → RunAlike program other
same_runs program other same = record {
  stores = λ store n. ap (λ (s : TreeState). s.store) (same_states program other same store n);
  calls = λ store n. ap (λ (s : TreeState). s.calls) (same_states program other same store n);
  ends = λ store n. (
    ends (prefix program store n) (prefix other store n) (same_states program other same store n),
    ends (prefix other store n) (prefix program store n) (same_states other program (sym same) store n),
  );
  lengths = λ store n. (
    has_length program other same store n,
    has_length other program (sym same) store n,
  );
}
