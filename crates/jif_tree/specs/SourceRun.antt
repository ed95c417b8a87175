-- What a program does when it is run plainly, with no hosts: one statement a step, on one store.
--
-- The plain run builds no tree. Trees are built and compared by mirrors. The step of the plain run takes native
-- statements apart, since it builds none.
--
-- The plain run takes values and not expressions. What a statement does is said of the values of its operands, and the
-- plain run gives those that the expressions have. So an altered run, in which some readings give another number,
-- shares what statements do.
use Rattle.std.specs.Prelude.{◌≡◌, ℕ, ◌<◌, zero, suc, ◌==◌, if◌then◌else◌, ℤ, pos, List, []}
use Rattle.std.specs.Prelude.{◌∷◌, ◌++◌, map}
use Rattle.std.specs.Prelude.{length, unwrap_or, Option, Some, None, slice_get, slice_set}
use Rattle.std.specs.Option.{option_map}
use Rattle.js_base.specs.declared.ids.VarId.{VarId}
use Rattle.jif_tree.specs.declared.program.Program.{Program}
use Rattle.jif_tree.specs.declared.program.Method.{Method}
use Rattle.jif_tree.specs.declared.program.Stmt.{Stmt}
use Rattle.jif_tree.specs.declared.program.StmtKind.{StmtKind}
use Rattle.jif_tree.specs.declared.program.StmtKind as kind
use Rattle.jif_tree.specs.declared.program.Expr.{Expr}
use Rattle.jif_tree.specs.declared.program.Expr as expr
use Rattle.jif_tree.specs.Operators.{is_true, binary_value, negation, inversion}
use Rattle.jif_tree.specs.Store.{element_at, row_of, store_after_write}

-- A call that was made: the number of the call that made it, its method, and the values of its variables, 0 where none
-- was set. Calls are numbered from 0 as they are made, and that of `main` is call 0.
pub record Call : Type 0 where
  pub caller : ℕ
  pub method : ℕ
  pub values : ℕ → ℤ

-- what is still to be done
pub data Item : Type 0 where
  -- a statement of a call
  run : (call : ℕ) (statement : Stmt) → Item
  -- in a call, a variable takes the value of another, in which a method left its result
  keep : (call : ℕ) (into result : VarId) → Item

-- the state of a plain run
pub record Configuration : Type 0 where
  pub store : List (List ℤ)
  pub calls : List Call
  pub pending : List Item

-- ---- variables

-- the value of a variable of a call
abbrev pub variable : List Call → ℕ → ℕ → ℤ
variable calls call x = unwrap_or (option_map (λ made. made.values x) (slice_get calls call)) (pos 0)

abbrev pub with_value : (ℕ → ℤ) → ℕ → ℤ → ℕ → ℤ
with_value values x value y = if y == x then value else values y

-- the calls after a variable of one of them was set
abbrev pub calls_after : List Call → ℕ → ℕ → ℤ → List Call
calls_after calls call x value = set_in (slice_get calls call)
  where
    set_in : Option Call → List Call
    set_in None = calls
    set_in (Some made) = slice_set calls call (record made { values = with_value made.values x value })

-- ---- expressions

-- the value of an expression in a call
abbrev pub value_of : Configuration → ℕ → Expr → ℤ
value_of c call (expr.Number n) = n
value_of c call (expr.Local x) = variable c.calls call x.0
value_of c call (expr.Scalar field) = element_at (row_of c.store field.0) (pos 0)
value_of c call (expr.Element' field p index) = element_at (row_of c.store field.0) (value_of c call index)
value_of c call (expr.Not' p operand) = inversion (value_of c call operand)
value_of c call (expr.Negate' p operand) = negation (value_of c call operand)
value_of c call (expr.Binary' operator p left q right) =
    binary_value operator (value_of c call left) (value_of c call right)
value_of c call (expr.Declassify' p inner label) = value_of c call inner
value_of c call (expr.Endorse' p inner label) = value_of c call inner

-- what a statement evaluates, from the left
abbrev pub operands : StmtKind → List Expr
operands (kind.Let x value) = value ∷ []
operands (kind.SetField field value) = value ∷ []
operands (kind.SetElement field index value) = index ∷ value ∷ []
operands (kind.If' guard m first n second) = guard ∷ []
operands (kind.While' guard m body) = guard ∷ []
operands (kind.Call site method args into) = args.items
operands (kind.Return value) = value ∷ []

-- ---- statements

-- the statements of a nested block
abbrev pub statements_of : {n : _} → kind.Row_of-Stmt n → List Stmt
statements_of kind.end_of-Stmt = []
statements_of (kind.more_of-Stmt id line what rest) =
    record { id = id; line = line; kind = what } ∷ statements_of rest

-- a method of the program
abbrev pub method_at : Program → ℕ → Option Method
method_at program number = slice_get program.methods.items number

abbrev pub body_of : Option Method → List Stmt
body_of None = []
body_of (Some method) = method.body.items

abbrev pub params_of : Option Method → List VarId
params_of None = []
params_of (Some method) = method.params.items

abbrev pub result_of : Option Method → Option VarId
result_of None = None
result_of (Some method) = method.result

-- parameters have the values of the arguments, and all else is 0
abbrev pub passed : List VarId → List ℤ → ℕ → ℤ
passed [] values x = pos 0
passed (param ∷ params) [] x = pos 0
passed (param ∷ params) (value ∷ values) x = if x == param.0 then value else passed params values x

-- the number at a place, which is there where a statement has so many operands
abbrev pub value_at : List ℤ → ℕ → ℤ
value_at values n = unwrap_or (slice_get values n) (pos 0)

-- where the result of a method goes, where it has one and it is kept
abbrev pub kept : ℕ → Option VarId → Option VarId → List Item
kept call (Some into) (Some result) = keep call into result ∷ []
kept call into result = []

-- the configuration after a call was made
abbrev pub after_call : Program → Configuration → ℕ → ℕ → List ℤ → Option VarId → List Item →
    Configuration
after_call program c call method values into behind =
    let called = method_at program method in
    record {
      store = c.store;
      calls = c.calls ++ record { caller = call; method = method; values = passed (params_of called) values } ∷ [];
      pending = map (run (length c.calls)) (body_of called) ++ kept call into (result_of called) ++ behind;
    }

-- what a call leaves to the one that made it
abbrev pub after_result : Configuration → Call → Option VarId → ℤ → List Call
after_result c made None value = c.calls
after_result c made (Some result) value = calls_after c.calls made.caller result.0 value

abbrev pub calls_after_return : Program → Configuration → ℕ → ℤ → List Call
calls_after_return program c call value = left_by (slice_get c.calls call)
  where
    left_by : Option Call → List Call
    left_by None = c.calls
    left_by (Some made) = after_result c made (result_of (method_at program made.method)) value

-- What a statement of a call leaves whose operands have these values, where these items were pending behind it. `again`
-- is the item of the statement itself, which a `while` puts back.
abbrev pub executed : Program → Configuration → ℕ → Item → StmtKind → List ℤ → List Item →
    Configuration
executed program c call again (kind.Let x value) values behind =
    record c { calls = calls_after c.calls call x.0 (value_at values 0); pending = behind }
executed program c call again (kind.SetField field value) values behind =
    record c { store = store_after_write c.store field.0 (pos 0) (value_at values 0); pending = behind }
executed program c call again (kind.SetElement field index value) values behind =
    record c { store = store_after_write c.store field.0 (value_at values 0) (value_at values 1); pending = behind }
executed program c call again (kind.If' guard m first n second) values behind =
    record c {
      pending = (if is_true (value_at values 0) then map (run call) (statements_of first)
          else map (run call) (statements_of second)) ++ behind;
    }
executed program c call again (kind.While' guard m body) values behind =
    record c {
      pending = if is_true (value_at values 0) then map (run call) (statements_of body) ++ again ∷ behind else behind;
    }
executed program c call again (kind.Call site method args into) values behind =
    after_call program c call method.0 values into behind
executed program c call again (kind.Return value) values behind =
    record c { calls = calls_after_return program c call (value_at values 0); pending = behind }

-- what the item at the front leaves; at the end nothing changes any more
abbrev pub after_item : Program → Configuration → List Item → Configuration
after_item program c [] = c
after_item program c (run call statement ∷ behind) =
    executed program c call (run call statement) statement.kind
    (map (value_of c call) (operands statement.kind)) behind
after_item program c (keep call into result ∷ behind) =
    record c { calls = calls_after c.calls call into.0 (variable c.calls call result.0); pending = behind }

-- one step
abbrev pub step : Program → Configuration → Configuration
step program c = after_item program c c.pending

-- the configuration after n steps
abbrev pub after_steps : Program → ℕ → Configuration → Configuration
after_steps program zero c = c
after_steps program (suc n) c = step program (after_steps program n c)

-- the statements of `main`
abbrev pub main_body : Program → List Stmt
main_body program = body_of (method_at program program.main.0)

-- where the run from a store begins: `main` is called, and its body is to be done
abbrev pub configuration_at_start : Program → List (List ℤ) → Configuration
configuration_at_start program store =
    record {
      store = store;
      calls = record { caller = 0; method = program.main.0; values = λ x. pos 0 } ∷ [];
      pending = map (run 0) (main_body program);
    }

-- the run's prefix of n steps
abbrev pub prefix : Program → List (List ℤ) → ℕ → Configuration
prefix program store n = after_steps program n (configuration_at_start program store)

-- nothing is left to be done
abbrev pub IsAtEnd : Configuration → Type 0
IsAtEnd c = c.pending ≡ []

-- the run from a store takes exactly n steps to its end
pub record HasLength (program : Program) (store : List (List ℤ)) (n : ℕ) : Type 0 where
  pub ends : IsAtEnd (prefix program store n)
  pub not_before : (m : ℕ) → m < n → ¬ IsAtEnd (prefix program store m)
