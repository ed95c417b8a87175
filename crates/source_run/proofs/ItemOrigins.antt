-- All that is pending in a run comes from the program.
use Rattle.std.proofs.Common.{◌≡◌, ℕ, zero, suc, Bool, true, false, ℤ, pos, List, [], ◌∷◌, ◌++◌, length, map}
use Rattle.std.proofs.Common.{Option, Some, None, refl, sym, ap, ◌∙◌, subst, inl, inr, All, Contains}
use Rattle.std.specs.Prelude.{slice_get, if◌then◌else◌}
use Rattle.std.proofs.lemmas.Bool.{cases_eq}
use Rattle.std.proofs.lemmas.Option.{slice_get_within}
use Rattle.std.proofs.lemmas.List.Elements.{All-nil, All-cons, All-head, All-tail, All-append, All-weaker, All-map}
use Rattle.std.proofs.lemmas.List.Elements.{All-contains_itself, Contains-append_left, Contains-append_right}
use Rattle.js_base.specs.declared.ids.VarId.{VarId}
use Rattle.js_base.specs.declared.ids.StmtId.{StmtId}
use Rattle.jif_tree.specs.declared.program.Program.{Program}
use Rattle.jif_tree.specs.declared.program.Stmt.{Stmt}
use Rattle.jif_tree.specs.declared.program.StmtKind.{StmtKind}
use Rattle.jif_tree.specs.declared.program.StmtKind as kind
use Rattle.jif_tree.specs.Operators.{is_true}
use Rattle.jif_tree.specs.SourceRun.{Call, Item, run, keep, Configuration, calls_after, value_of, operands}
use Rattle.jif_tree.specs.SourceRun.{statements_of, method_at, body_of, result_of, params_of, passed, kept, value_at}
use Rattle.jif_tree.specs.SourceRun.{executed, after_item, main_body, configuration_at_start}
use Rattle.jif_tree.specs.SourceRun.{prefix}
use Rattle.source_run.specs.Changes.{DiffersByOne, IsOfStatement, Change, nothing, write, assignment, new_call}
use Rattle.source_run.specs.Changes.{IsOfItems, calls_changed}
use Rattle.source_run.specs.Origins.{nested_in, IsPartOf, KeepsIn, IsOfCall, HasOrigin, HaveOrigins}
use Rattle.source_run.proofs.Places.{get-set_same, get-before, get-added}
use Rattle.source_run.proofs.Agreement.{set_in_call, calls_after-at, calls_after-other}
use Rattle.source_run.proofs.OneChange.{executed_changes, item_changes}

-- ---- calls keep their methods

abbrev KeepMethods : List Call → List Call → Type 0
KeepMethods calls others = (k : ℕ) (found : Call) → slice_get calls k ≡ Some found
    → (later : Call) × (slice_get others k ≡ Some later) × (later.method ≡ found.method)

same_found : (one other : Call) → Some one ≡ Some other → one ≡ other
same_found one other same = cc

set_keeps : (calls : List Call) (n x : ℕ) (value : ℤ) (at : Option Call) → slice_get calls n ≡ at
    → KeepMethods calls (calls_after calls n x value)
set_keeps calls n x value None is = rw is (λ k found there. (found, there, refl))
set_keeps calls n x value (Some changed) is = λ k found there. elim (cases_eq k n) [
  | inl same ↦
      let known = slice_get_within calls n changed is in
      let one : changed ≡ found = same_found changed found (sym is
      ∙ subst (λ (i : ℕ). slice_get calls i ≡ Some found) same there) in (
        set_in_call changed x value,
        ap (slice_get (calls_after calls n x value)) same
            ∙ (ap (λ (cs : List Call). slice_get cs n) (calls_after-at calls n x value changed is)
            ∙ get-set_same calls n (set_in_call changed x value) known),
        ap (λ (call : Call). call.method) one,
      )
  | inr differ ↦ (found, calls_after-other calls n x value changed k is differ ∙ there, refl)
]

change_keeps : (change : Change) (calls : List Call) → KeepMethods calls (calls_changed change calls)
change_keeps nothing calls = λ k found there. (found, there, refl)
change_keeps (write field index value) calls = λ k found there. (found, there, refl)
change_keeps (assignment n x value) calls = set_keeps calls n x value (slice_get calls n) refl
change_keeps (new_call call) calls = λ k found there.
    (found, get-before calls call k (slice_get_within calls k found there) ∙ there, refl)

differs_keeps : (due : Change → Type 0) (before after : Configuration) → DiffersByOne due before after
    → KeepMethods before.calls after.calls
differs_keeps due before after differs =
    subst (KeepMethods before.calls) (sym differs.calls) (change_keeps differs.change before.calls)

-- ---- what has an origin keeps it

of_call_kept : (program : Program) (calls others : List Call) → KeepMethods calls others → (n : ℕ) (statement : Stmt)
    → IsOfCall program calls n statement → IsOfCall program others n statement
of_call_kept program calls others keeps n statement is =
    let later = keeps n is.0 is.1 in (
      later.0,
      later.1,
      subst (λ (m : ℕ). IsPartOf statement (body_of (method_at program m))) (sym later.2) is.2,
    )

origin_kept : (program : Program) (calls others : List Call) → KeepMethods calls others → (item : Item)
    → HasOrigin program calls item → HasOrigin program others item
origin_kept program calls others keeps (run n statement) is = of_call_kept program calls others keeps n statement is
origin_kept program calls others keeps (keep n into result) is =
    (is.0, of_call_kept program calls others keeps n is.0 is.1, is.2)

-- ---- the statements of a block

-- a statement of a block is a part of it
whole : (statement : Stmt) (block : List Stmt) → Contains block statement → IsPartOf statement block
whole statement block within = (0, within)

-- a statement that is nested in a statement of a call is of that call
nested : (program : Program) (calls : List Call) (n : ℕ) (outer : Stmt) → IsOfCall program calls n outer
    → (statement : Stmt) → Contains (nested_in outer.kind) statement → IsOfCall program calls n statement
nested program calls n outer is statement within = (is.0, is.1, (suc is.2.0, (outer, is.2.1, within)))

block_origins : (program : Program) (calls : List Call) (n : ℕ) (block : List Stmt)
    → ((statement : Stmt) → Contains block statement → IsOfCall program calls n statement)
    → All (HasOrigin program calls) (map (run n) block)
block_origins program calls n block of =
    All-map (HasOrigin program calls) (run n) block
    (All-weaker (Contains block) (λ (s : Stmt). IsOfCall program calls n s) of block (All-contains_itself block))

branch_origins : (program : Program) (calls : List Call) (n : ℕ) (truth : Bool) (first second : List Stmt)
    (behind : List Item)
    → ((statement : Stmt) → Contains (first ++ second) statement → IsOfCall program calls n statement)
    → All (HasOrigin program calls) behind
    → All (HasOrigin program calls) ((if truth then map (run n) first else map (run n) second) ++ behind)
branch_origins program calls n true first second behind of have =
    All-append (HasOrigin program calls) (map (run n) first) behind
    (block_origins program calls n first (λ s within. of s (Contains-append_left first second s within))) have
branch_origins program calls n false first second behind of have =
    All-append (HasOrigin program calls) (map (run n) second) behind
    (block_origins program calls n second (λ s within. of s (Contains-append_right first second s within))) have

loop_origins : (program : Program) (calls : List Call) (n : ℕ) (truth : Bool) (body : List Stmt) (again : Item)
    (behind : List Item) → ((statement : Stmt) → Contains body statement → IsOfCall program calls n statement)
    → HasOrigin program calls again → All (HasOrigin program calls) behind
    → All (HasOrigin program calls) (if truth then map (run n) body ++ again ∷ behind else behind)
loop_origins program calls n true body again behind of has have =
    All-append (HasOrigin program calls) (map (run n) body) (again ∷ behind) (block_origins program calls n body of)
    (All-cons (HasOrigin program calls) again behind has have)
loop_origins program calls n false body again behind of has have = have

-- the assignment behind a call
kept_origins : (program : Program) (calls : List Call) (n : ℕ) (statement : Stmt) → IsOfCall program calls n statement
    → (into result : Option VarId)
    → ((x y : VarId) → into ≡ Some x → result ≡ Some y → KeepsIn program statement.kind x y)
    → All (HasOrigin program calls) (kept n into result)
kept_origins program calls n statement is None result keeps = All-nil (HasOrigin program calls)
kept_origins program calls n statement is (Some into) None keeps = All-nil (HasOrigin program calls)
kept_origins program calls n statement is (Some into) (Some result) keeps =
    All-cons (HasOrigin program calls) (keep n into result) [] (statement, is, keeps into result refl refl)
    (All-nil (HasOrigin program calls))

-- ---- each kind of statement

behind_kept : (program : Program) (due : Change → Type 0) (before after : Configuration)
    → DiffersByOne due before after → (items : List Item)
    → All (HasOrigin program before.calls) items → All (HasOrigin program after.calls) items
behind_kept program due before after differs items have =
    All-weaker (HasOrigin program before.calls) (HasOrigin program after.calls)
    (origin_kept program before.calls after.calls (differs_keeps due before after differs)) items have

executes : (program : Program) (c : Configuration) (n : ℕ) (id : StmtId) (line : ℕ) (what : StmtKind)
    (values : List ℤ) (behind : List Item)
    → let statement : Stmt = record { id = id; line = line; kind = what } in
    IsOfCall program c.calls n statement → All (HasOrigin program c.calls) behind
    → HaveOrigins program (executed program c n (run n statement) what values behind)
executes program c n id line (kind.Let x value) values behind is have =
    let statement : Stmt = record { id = id; line = line; kind = kind.Let x value } in
    behind_kept program (IsOfStatement program c.calls n (kind.Let x value)) c
    (executed program c n (run n statement) (kind.Let x value) values behind)
    (executed_changes program c n (run n statement) (kind.Let x value) values behind) behind have
executes program c n id line (kind.SetField field value) values behind is have = have
executes program c n id line (kind.SetElement field index value) values behind is have = have
executes program c n id line (kind.If' guard m first k second) values behind is have =
    let statement : Stmt = record { id = id; line = line; kind = kind.If' guard m first k second } in
    branch_origins program c.calls n (is_true (value_at values 0)) (statements_of first) (statements_of second) behind
    (nested program c.calls n statement is) have
executes program c n id line (kind.While' guard m body) values behind is have =
    let statement : Stmt = record { id = id; line = line; kind = kind.While' guard m body } in
    loop_origins program c.calls n (is_true (value_at values 0)) (statements_of body) (run n statement) behind
    (nested program c.calls n statement is) is have
executes program c n id line (kind.Call site method args into) values behind is have =
    let statement : Stmt = record { id = id; line = line; kind = kind.Call site method args into } in
    let after = executed program c n (run n statement) (kind.Call site method args into) values behind in
    let due = IsOfStatement program c.calls n (kind.Call site method args into) in
    let differs = executed_changes program c n (run n statement) (kind.Call site method args into) values behind in
    let called = method_at program method.0 in
    let call : Call = record { caller = n; method = method.0; values = passed (params_of called) values } in
    let body = map (run (length c.calls)) (body_of called) in
    let result = kept n into (result_of called) in
    All-append (HasOrigin program after.calls) (body ++ result) behind
    (All-append (HasOrigin program after.calls) body result
    (block_origins program after.calls (length c.calls) (body_of called)
    (λ s within. (call, get-added c.calls call, whole s (body_of called) within)))
    (kept_origins program after.calls n statement
    (of_call_kept program c.calls after.calls (differs_keeps due c after differs) n statement is) into
    (result_of called)
    (λ x y one other. (one, other))))
    (behind_kept program due c after differs behind have)
executes program c n id line (kind.Return value) values behind is have =
    let statement : Stmt = record { id = id; line = line; kind = kind.Return value } in
    behind_kept program (IsOfStatement program c.calls n (kind.Return value)) c
    (executed program c n (run n statement) (kind.Return value) values behind)
    (executed_changes program c n (run n statement) (kind.Return value) values behind) behind have

-- ---- a run

item_origins : (program : Program) (c : Configuration) (items : List Item) → All (HasOrigin program c.calls) items
    → c.pending ≡ items → HaveOrigins program (after_item program c items)
item_origins program c [] have are = subst (All (HasOrigin program c.calls)) (sym are) have
item_origins program c (run n statement ∷ behind) have are =
    executes program c n statement.id statement.line statement.kind (map (value_of c n) (operands statement.kind))
    behind (All-head (HasOrigin program c.calls) (run n statement) behind have)
    (All-tail (HasOrigin program c.calls) (run n statement) behind have)
item_origins program c (keep n into result ∷ behind) have are =
    behind_kept program (IsOfItems program c.calls (keep n into result ∷ behind)) c
    (after_item program c (keep n into result ∷ behind)) (item_changes program c (keep n into result ∷ behind)) behind
    (All-tail (HasOrigin program c.calls) (keep n into result) behind have)

start_origins : (program : Program) (store : List (List ℤ)) → HaveOrigins program (configuration_at_start program store)
start_origins program store =
    let main : Call = record { caller = 0; method = program.main.0; values = λ x. pos 0 } in
    block_origins program (main ∷ []) 0 (main_body program)
    (λ s within. (main, refl, whole s (main_body program) within))

pub of_program : (program : Program) (store : List (List ℤ)) (n : ℕ) → HaveOrigins program (prefix program store n)
of_program program store zero = start_origins program store
of_program program store (suc n) =
    item_origins program (prefix program store n) (prefix program store n).pending (of_program program store n) refl
