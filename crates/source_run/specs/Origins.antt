-- Where pending items come from.
use Rattle.std.specs.Prelude.{◌≡◌, ℕ, zero, suc, List, [], ◌++◌, Some, slice_get, All, Contains}
use Rattle.js_base.specs.declared.ids.VarId.{VarId}
use Rattle.jif_tree.specs.declared.program.Program.{Program}
use Rattle.jif_tree.specs.declared.program.Stmt.{Stmt}
use Rattle.jif_tree.specs.declared.program.StmtKind.{StmtKind}
use Rattle.jif_tree.specs.declared.program.StmtKind as kind
use Rattle.jif_tree.specs.SourceRun.{Call, Item, run, keep, Configuration, statements_of, method_at, body_of, result_of}

-- the statements of the nested blocks of a statement
abbrev pub nested_in : StmtKind → List Stmt
nested_in (kind.If' guard m first n second) = statements_of first ++ statements_of second
nested_in (kind.While' guard m body) = statements_of body
nested_in _ = []

-- a statement stands in a block, under so many other statements
abbrev pub IsAtDepth : ℕ → Stmt → List Stmt → Type 0
IsAtDepth zero statement block = Contains block statement
IsAtDepth (suc depth) statement block =
    (outer : Stmt) × IsAtDepth depth outer block × Contains (nested_in outer.kind) statement

-- a statement stands in a block, or in a block that is nested in it
abbrev pub IsPartOf : Stmt → List Stmt → Type 0
IsPartOf statement block = (depth : ℕ) × IsAtDepth depth statement block

-- a statement of this kind calls a method with this result, and keeps it in this variable
abbrev pub KeepsIn : Program → StmtKind → VarId → VarId → Type 0
KeepsIn program (kind.Call site method args into) kept result =
    (into ≡ Some kept) × (result_of (method_at program method.0) ≡ Some result)
KeepsIn program _ kept result = ⊥

-- a call of this number was made, and a statement is one of its method's body
abbrev pub IsOfCall : Program → List Call → ℕ → Stmt → Type 0
IsOfCall program calls call statement =
    (made : Call) × (slice_get calls call ≡ Some made)
    × IsPartOf statement (body_of (method_at program made.method))

-- a statement is one of its call, and an assignment behind a call comes from a statement of its call
abbrev pub HasOrigin : Program → List Call → Item → Type 0
HasOrigin program calls (run call statement) = IsOfCall program calls call statement
HasOrigin program calls (keep call into result) =
    (statement : Stmt) × IsOfCall program calls call statement × KeepsIn program statement.kind into result

-- all that is pending comes from the program
abbrev pub HaveOrigins : Program → Configuration → Type 0
HaveOrigins program c = All (HasOrigin program c.calls) c.pending
