-- What a walk gives for values goes on where it is: the reads of an expression, each of which leaves one temporary
-- more, and what is sent to those who read a variable.
use Rattle.std.proofs.Common.{◌≡◌, ◌≢◌, ◌∙◌, ℕ, suc, zero, ◌+◌, ◌<◌, ◌≤◌, Bool, true, false, cond, ◌&&◌, not}
use Rattle.std.proofs.Common.{List, [], ◌∷◌, ◌++◌, map, filter, length, refl, ap, sym, subst, arith, eq-eqb}
use Rattle.std.proofs.lemmas.List.Elements.{All-nil, All-cons, All-append, All-head, All-tail}
use Rattle.std.proofs.lemmas.Option.{slice_get_within}
use Rattle.std.specs.Prelude.{All, Option}
use Rattle.std.specs.List.{range_with_len}
use Rattle.js_base.specs.declared.ids.HostId.{HostId}
use Rattle.js_base.specs.declared.ids.FieldId.{FieldId}
use Rattle.js_base.specs.declared.ids.VarId.{VarId}
use Rattle.js_base.specs.declared.ids.MethodId.{MethodId}
use Rattle.js_base.specs.declared.ids.StmtId.{StmtId}
use Rattle.label_lattice.specs.declared.label.Label.{Label}
use Rattle.jif_tree.specs.Trees.{ExprTree, number, local, scalar, element, inverted, negated, binary, declassified}
use Rattle.jif_tree.specs.Trees.{endorsed, ProgramTree}
use Rattle.jif_tree.specs.WellNumbered.{HasField, HasVariable, IsExprIn}
use Rattle.host_code.specs.declared.code_expr.Node.{Node}
use Rattle.host_code.specs.declared.code_expr.Node.TheVariants as node
use Rattle.host_code.specs.declared.instruction.Op.TheVariants as op
use Rattle.need_labels.specs.Plan.{statement_host}
use Rattle.msg_cost.specs.Moves.{PlannedShape, is_to}
use Rattle.msg_cost.specs.Terms.{reads_on, is_told}
use Rattle.split_rules.specs.Expressions.{ElementReading, reads_in, nodes_of, readings_of, first_element, released_by}
use Rattle.split_rules.specs.Flow.{Scope, at, Pending, NodeFitsScope, ExpressionFitsScope, IsFieldInScope}
use Rattle.split_rules.specs.Flow.{IsVariableInScope, IsOtherInScope, FlowGoes}
use Rattle.split_rules.specs.Walk.{emitted, read_emissions, expr_emissions, told_readers, send_emissions}
use Rattle.split_rules.specs.Walk.{pass_emissions}
use Rattle.split_rules.proofs.WalkedStates.{state_of}

-- the scope has what a program and a plan speak of
pub record IsScopeOf (scope : Scope) (program : ProgramTree) (planned : PlannedShape) : Type 0 where
  pub fields : scope.fields ≡ length program.fields
  pub variables : scope.variables ≡ length program.vars
  pub hosts : length planned.hosts.hosts ≡ scope.hosts
  pub statements : (statement : StmtId) → (statement_host planned.plan statement).0 < scope.hosts

pub field_there : (scope : Scope) (program : ProgramTree) (planned : PlannedShape) → IsScopeOf scope program planned →
    (array : Bool) (field : FieldId) → HasField program array field → IsFieldInScope scope field
field_there scope program planned scoped array field there =
    let P : ℕ → Type 0 = λ many. field.0 < many in
    subst P (sym scoped.fields) (slice_get_within program.fields field.0 there.0 there.1)

pub variable_there : (scope : Scope) (program : ProgramTree) (planned : PlannedShape) →
    IsScopeOf scope program planned →
    (method : MethodId) (variable : VarId) → HasVariable program method variable → IsVariableInScope scope variable
variable_there scope program planned scoped method variable there =
    let P : ℕ → Type 0 = λ many. variable.0 < many in
    subst P (sym scoped.variables) (slice_get_within program.vars variable.0 there.0 there.1)

-- ---- nodes

one_fits : (scope : Scope) (count : ℕ) (one : Node) → NodeFitsScope scope count one →
    ExpressionFitsScope scope count (one ∷ [])
one_fits scope count one fits = All-cons (NodeFitsScope scope count) one [] fits (All-nil (NodeFitsScope scope count))

pub nodes_fit : (scope : Scope) (program : ProgramTree) (planned : PlannedShape) → IsScopeOf scope program planned →
    (method : MethodId) (expr : ExprTree) → IsExprIn program method expr → (first count : ℕ) →
    first + reads_in expr ≤ count → ExpressionFitsScope scope count (nodes_of first expr)
nodes_fit scope program planned scoped method (number value) there first count enough =
    one_fits scope count (node.Number value) tt
nodes_fit scope program planned scoped method (local x) there first count enough =
    one_fits scope count (node.Var x) (variable_there scope program planned scoped method x there)
nodes_fit scope program planned scoped method (scalar field) there first count enough =
    let so : first + 1 ≤ count = enough in
    one_fits scope count (node.Temp first) (omega arith)
nodes_fit scope program planned scoped method (element field index) there first count enough =
    let so : first + (reads_in index + 1) ≤ count = enough in
    one_fits scope count (node.Temp (first + reads_in index)) (omega arith)
nodes_fit scope program planned scoped method (inverted operand) there first count enough =
    All-append (NodeFitsScope scope count) (nodes_of first operand) (node.Not ∷ [])
    (nodes_fit scope program planned scoped method operand there first count enough)
    (one_fits scope count node.Not tt)
nodes_fit scope program planned scoped method (negated operand) there first count enough =
    All-append (NodeFitsScope scope count) (nodes_of first operand) (node.Negate ∷ [])
    (nodes_fit scope program planned scoped method operand there first count enough)
    (one_fits scope count node.Negate tt)
nodes_fit scope program planned scoped method (binary operator left right) there first count enough =
    let so : first + (reads_in left + reads_in right) ≤ count = enough in
    All-append (NodeFitsScope scope count) (nodes_of first left ++ nodes_of (first + reads_in left) right)
    (node.Binary operator ∷ [])
    (All-append (NodeFitsScope scope count) (nodes_of first left) (nodes_of (first + reads_in left) right)
    (nodes_fit scope program planned scoped method left there.0 first count (omega arith))
    (nodes_fit scope program planned scoped method right there.1 (first + reads_in left) count (omega arith)))
    (one_fits scope count (node.Binary operator) tt)
nodes_fit scope program planned scoped method (declassified operand label) there first count enough =
    nodes_fit scope program planned scoped method operand there first count enough
nodes_fit scope program planned scoped method (endorsed operand label) there first count enough =
    nodes_fit scope program planned scoped method operand there first count enough

-- an expression whose reads come first
pub own_nodes_fit : (scope : Scope) (program : ProgramTree) (planned : PlannedShape) → IsScopeOf scope program planned →
    (method : MethodId) (expr : ExprTree) → IsExprIn program method expr → (first : ℕ) →
    ExpressionFitsScope scope (first + reads_in expr) (nodes_of first expr)
own_nodes_fit scope program planned scoped method expr there first =
    nodes_fit scope program planned scoped method expr there first (first + reads_in expr) (omega arith)

pub first_fits : (scope : Scope) (count : ℕ) → ExpressionFitsScope scope count first_element
first_fits scope count = one_fits scope count _ tt

-- ---- reads

-- reads that fit where so many temporaries are there, and what is there behind them
abbrev ReadsFrom : Scope → ℕ → List ElementReading → ℕ → Type 0
ReadsFrom scope first [] last = first ≡ last
ReadsFrom scope first (reading ∷ others) last =
    IsFieldInScope scope reading.field × ExpressionFitsScope scope first reading.index
    × ReadsFrom scope (suc first) others last

reads_on_then : (scope : Scope) (first : ℕ) (xs ys : List ElementReading) (middle last : ℕ) →
    ReadsFrom scope first xs middle →
    ReadsFrom scope middle ys last → ReadsFrom scope first (xs ++ ys) last
reads_on_then scope first [] ys middle last one two =
    let P : ℕ → Type 0 = λ count. ReadsFrom scope count ys last in
    subst P (sym one) two
reads_on_then scope first (x ∷ xs) ys middle last one two =
    (one.0, one.1, reads_on_then scope (suc first) xs ys middle last one.2 two)

reads_fit : (scope : Scope) (program : ProgramTree) (planned : PlannedShape) → IsScopeOf scope program planned →
    (method : MethodId) (expr : ExprTree) → IsExprIn program method expr → (first : ℕ) →
    ReadsFrom scope first (readings_of first expr) (first + reads_in expr)
reads_fit scope program planned scoped method (number value) there first = omega arith
reads_fit scope program planned scoped method (local x) there first = omega arith
reads_fit scope program planned scoped method (scalar field) there first =
    (field_there scope program planned scoped false field there, first_fits scope first, omega arith)
reads_fit scope program planned scoped method (element field index) there first =
    reads_on_then scope first (readings_of first index)
    (record { field = field; index = nodes_of first index; released = released_by first index } ∷ [])
    (first + reads_in index) (first + (reads_in index + 1))
    (reads_fit scope program planned scoped method index there.1 first) (
      field_there scope program planned scoped true field there.0,
      own_nodes_fit scope program planned scoped method index there.1 first,
      omega arith,
    )
reads_fit scope program planned scoped method (inverted operand) there first =
    reads_fit scope program planned scoped method operand there first
reads_fit scope program planned scoped method (negated operand) there first =
    reads_fit scope program planned scoped method operand there first
reads_fit scope program planned scoped method (binary operator left right) there first =
    let both : first + reads_in left + reads_in right ≡ first + (reads_in left + reads_in right) = omega arith in
    let P : ℕ → Type 0 = λ last. ReadsFrom scope (first + reads_in left)
    (readings_of (first + reads_in left) right) last in
    reads_on_then scope first (readings_of first left) (readings_of (first + reads_in left) right)
    (first + reads_in left) (first + (reads_in left + reads_in right))
    (reads_fit scope program planned scoped method left there.0 first)
    (subst P both (reads_fit scope program planned scoped method right there.1 (first + reads_in left)))
reads_fit scope program planned scoped method (declassified operand label) there first =
    reads_fit scope program planned scoped method operand there first
reads_fit scope program planned scoped method (endorsed operand label) there first =
    reads_fit scope program planned scoped method operand there first

-- such reads, one after another
readings_go : (scope : Scope) (host : HostId) (label : Label) (statement : StmtId) (named : List HostId) (branches : ℕ)
    (owed opened : List Pending) (readings : List ElementReading) (first last : ℕ) →
    ReadsFrom scope first readings last →
    FlowGoes scope (state_of (at host first) named branches owed opened) (read_emissions host label statement readings)
    (state_of (at host last) named branches owed opened)
readings_go scope host label statement named branches owed opened [] first last reads =
    ap (λ count. state_of (at host count) named branches owed opened) reads
readings_go scope host label statement named branches owed opened (reading ∷ others) first last reads = (
  (refl, (reads.0, reads.1)),
  readings_go scope host label statement named branches owed opened others (suc first) last reads.2,
)

pub expr_goes : (scope : Scope) (program : ProgramTree) (planned : PlannedShape) → IsScopeOf scope program planned →
    (method : MethodId) (expr : ExprTree) → IsExprIn program method expr → (host : HostId) (label : Label)
    (statement : StmtId) (named : List HostId) (branches : ℕ) (owed opened : List Pending) (first : ℕ) →
    FlowGoes scope (state_of (at host first) named branches owed opened)
    (expr_emissions host label statement first expr)
    (state_of (at host (first + reads_in expr)) named branches owed opened)
expr_goes scope program planned scoped method expr there host label statement named branches owed opened first =
    readings_go scope host label statement named branches owed opened (readings_of first expr) first
    (first + reads_in expr) (reads_fit scope program planned scoped method expr there first)

-- ---- those who are told the value of a variable

true_not_false : true ≡ false → ⊥
true_not_false is = cc

told_passes : (scope : Scope) (planned : PlannedShape) (host : HostId) (x : VarId) (carried : Option HostId)
    (other : ℕ) → other < scope.hosts → is_told planned host x carried other ≡ true →
    IsOtherInScope scope host (record { 0 = other })
told_passes scope planned host x carried other within passes = (within, apart)
  where
    apart : record { 0 = other } ≢ host
    apart same =
        let number : other ≡ host.0 = ap (λ (one : HostId). one.0) same in
        let failed : is_told planned host x carried other ≡ false =
        ap (λ b. (not b && reads_on planned x other) && not (is_to carried other)) (eq-eqb other host.0 number) in
        true_not_false (sym passes ∙ failed)

told_below : (scope : Scope) (planned : PlannedShape) (host : HostId) (x : VarId) (carried : Option HostId)
    (first count : ℕ) →
    first + count ≤ scope.hosts →
    All (IsOtherInScope scope host) (map (λ other. record { 0 = other })
    (filter (is_told planned host x carried) (range_with_len first count)))
told_below scope planned host x carried first zero within = All-nil (IsOtherInScope scope host)
told_below scope planned host x carried first (suc count) within =
    let so : first + suc count ≤ scope.hosts = within in
    chosen (is_told planned host x carried first)
    (λ passes. told_passes scope planned host x carried first (omega arith) passes)
    (told_below scope planned host x carried (first + 1) count (omega arith))
  where
    others : List ℕ
    others = filter (is_told planned host x carried) (range_with_len (first + 1) count)

    chosen : (b : Bool) → (b ≡ true → IsOtherInScope scope host (record { 0 = first })) →
        All (IsOtherInScope scope host) (map (λ other. record { 0 = other }) others) →
        All (IsOtherInScope scope host) (map (λ other. record { 0 = other }) (cond b (first ∷ others) others))
    chosen true is all = All-cons (IsOtherInScope scope host) (record { 0 = first }) _ (is refl) all
    chosen false is all = all

told_there : (scope : Scope) (program : ProgramTree) (planned : PlannedShape) → IsScopeOf scope program planned →
    (host : HostId) (x : VarId) (carried : Option HostId) →
    All (IsOtherInScope scope host) (told_readers planned host x carried)
told_there scope program planned scoped host x carried =
    let same = scoped.hosts in
    told_below scope planned host x carried 0 (length planned.hosts.hosts) (omega arith)

sends_go : (scope : Scope) (host : HostId) (label : Label) (statement : StmtId) (x : VarId) →
    IsVariableInScope scope x →
    (named : List HostId) (branches : ℕ) (owed opened : List Pending) (count : ℕ) (others : List HostId) →
    All (IsOtherInScope scope host) others →
    FlowGoes scope (state_of (at host count) named branches owed opened)
    (map (λ other. emitted host label statement (op.Send x other)) others)
    (state_of (at host count) named branches owed opened)
sends_go scope host label statement x there named branches owed opened count [] fit = refl
sends_go scope host label statement x there named branches owed opened count (other ∷ others) fit = (
  (refl, (there, All-head (IsOtherInScope scope host) other others fit)),
  sends_go scope host label statement x there named branches owed opened count others
      (All-tail (IsOtherInScope scope host) other others fit),
)

passes_go : (scope : Scope) (host : HostId) (label : Label) (statement : StmtId) (x : VarId) →
    IsVariableInScope scope x →
    (named : List HostId) (branches : ℕ) (owed opened : List Pending) (count : ℕ) (others : List HostId) →
    All (IsOtherInScope scope host) others →
    FlowGoes scope (state_of (at host count) named branches owed opened)
    (map (λ other. emitted host label statement (op.Pass x other)) others)
    (state_of (at host count) named branches owed opened)
passes_go scope host label statement x there named branches owed opened count [] fit = refl
passes_go scope host label statement x there named branches owed opened count (other ∷ others) fit = (
  (refl, (there, All-head (IsOtherInScope scope host) other others fit)),
  passes_go scope host label statement x there named branches owed opened count others
      (All-tail (IsOtherInScope scope host) other others fit),
)

pub send_goes : (scope : Scope) (program : ProgramTree) (planned : PlannedShape) → IsScopeOf scope program planned →
    (host : HostId) (label : Label) (statement : StmtId) (x : VarId) (carried : Option HostId) →
    IsVariableInScope scope x →
    (named : List HostId) (branches : ℕ) (owed opened : List Pending) (count : ℕ) →
    FlowGoes scope (state_of (at host count) named branches owed opened)
    (send_emissions planned host label statement x carried) (state_of (at host count) named branches owed opened)
send_goes scope program planned scoped host label statement x carried there named branches owed opened count =
    sends_go scope host label statement x there named branches owed opened count (told_readers planned host x carried)
    (told_there scope program planned scoped host x carried)

pub pass_goes : (scope : Scope) (program : ProgramTree) (planned : PlannedShape) → IsScopeOf scope program planned →
    (host : HostId) (label : Label) (statement : StmtId) (x : VarId) (carried : Option HostId) →
    IsVariableInScope scope x →
    (named : List HostId) (branches : ℕ) (owed opened : List Pending) (count : ℕ) →
    FlowGoes scope (state_of (at host count) named branches owed opened)
    (pass_emissions planned host label statement x carried) (state_of (at host count) named branches owed opened)
pass_goes scope program planned scoped host label statement x carried there named branches owed opened count =
    passes_go scope host label statement x there named branches owed opened count (told_readers planned host x carried)
    (told_there scope program planned scoped host x carried)
