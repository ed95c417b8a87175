-- Whoever hosts a statement is one of those that read its variables, and may see the result of what it calls.
use Rattle.std.specs.Prelude.{◌≡◌, true, Some, ⊤}
use Rattle.std.specs.List.{AllByRecursion}
use Rattle.js_base.specs.declared.ids.HostId.{HostId}
use Rattle.js_base.specs.declared.ids.StmtId.{StmtId}
use Rattle.js_base.specs.declared.ids.VarId.{VarId}
use Rattle.js_base.specs.declared.ids.MethodId.{MethodId}
use Rattle.jif_tree.specs.LabelRules.{method_at, result_of}
use Rattle.jif_tree.specs.Trees.{ExprTree, BlockTree, done, set_local, set_field, set_element, branch, loop, call}
use Rattle.jif_tree.specs.Trees.{give_back}
use Rattle.jif_tree.specs.WellNumbered.{is_some}
use Rattle.host_code.specs.Code.{CodeShape, variable_at}
use Rattle.host_core.specs.Turn.{MayReturn}
use Rattle.need_labels.specs.Needs.{variables_in}
use Rattle.need_labels.specs.Plan.{statement_host}
use Rattle.msg_cost.specs.Moves.{PlannedShape}
use Rattle.msg_cost.specs.Terms.{reads_on}
use Rattle.std.specs.Prelude.{Option}

-- ---- results

-- the host of a call may see the label of the method's result
abbrev pub SeesResult : CodeShape → PlannedShape → StmtId → MethodId → Type 0
SeesResult code planned statement method = (result : VarId) →
    result_of (method_at planned.program method) ≡ Some result → (host : HostId) →
    host.0 ≡ (statement_host planned.plan statement).0 → MayReturn code (variable_at code result) host

-- so may that of each call in a block, and in the blocks in it
abbrev pub SeeResults : CodeShape → PlannedShape → BlockTree → Type 0
SeeResults code planned done = ⊤
SeeResults code planned (set_local heading x value rest) = SeeResults code planned rest
SeeResults code planned (set_field heading field value rest) = SeeResults code planned rest
SeeResults code planned (set_element heading field index value rest) = SeeResults code planned rest
SeeResults code planned (branch heading guard first second rest) =
    SeeResults code planned first × SeeResults code planned second × SeeResults code planned rest
SeeResults code planned (loop heading guard body rest) = SeeResults code planned body × SeeResults code planned rest
SeeResults code planned (call heading site method arguments into rest) =
    SeesResult code planned heading.id method × SeeResults code planned rest
SeeResults code planned (give_back heading value rest) = SeeResults code planned rest

-- ---- readers

-- the host of a statement is one of those that read the variables of an expression
abbrev pub IsReadingHost : PlannedShape → StmtId → ExprTree → Type 0
IsReadingHost planned statement expr =
    AllByRecursion (λ x. reads_on planned x (statement_host planned.plan statement).0 ≡ true) (variables_in expr)

-- a call keeps the result of the method exactly where there is one
abbrev pub IsResultKept : PlannedShape → MethodId → Option VarId → Type 0
IsResultKept planned method into = is_some into ≡ is_some (result_of (method_at planned.program method))

-- The host of each statement of a block, and of the blocks in it, reads the variables of its expressions, and may see
-- the result of what it calls.
abbrev pub IsFit : CodeShape → PlannedShape → BlockTree → Type 0
IsFit code planned done = ⊤
IsFit code planned (set_local heading x value rest) = IsReadingHost planned heading.id value × IsFit code planned rest
IsFit code planned (set_field heading field value rest) = IsReadingHost planned heading.id value
    × IsFit code planned rest
IsFit code planned (set_element heading field index value rest) =
    IsReadingHost planned heading.id index × IsReadingHost planned heading.id value × IsFit code planned rest
IsFit code planned (branch heading guard first second rest) =
    IsReadingHost planned heading.id guard × IsFit code planned first × IsFit code planned second
    × IsFit code planned rest
IsFit code planned (loop heading guard body rest) =
    IsReadingHost planned heading.id guard × IsFit code planned body × IsFit code planned rest
IsFit code planned (call heading site method arguments into rest) =
    AllByRecursion (IsReadingHost planned heading.id) arguments × IsResultKept planned method into
    × SeesResult code planned heading.id method × IsFit code planned rest
IsFit code planned (give_back heading value rest) = IsReadingHost planned heading.id value × IsFit code planned rest
