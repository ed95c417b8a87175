-- What fits a walk fits a code that has what the walk speaks of.
use Rattle.std.proofs.Common.{◌≡◌, ◌∙◌, ℕ, ◌<◌, ◌≤◌, List, [], ◌∷◌, length, ap, arith}
use Rattle.std.proofs.lemmas.List.Elements.{All-weaker}
use Rattle.std.specs.Prelude.{⊤}
use Rattle.std.specs.List.{AllByRecursion}
use Rattle.js_base.specs.declared.ids.HostId.{HostId}
use Rattle.js_base.specs.declared.ids.EntryId.{EntryId}
use Rattle.js_base.specs.declared.ids.VarId.{VarId}
use Rattle.host_code.specs.declared.code_expr.Node.{Node}
use Rattle.host_code.specs.declared.code_expr.Node.TheVariants as node
use Rattle.host_code.specs.declared.instruction.Op.{Op}
use Rattle.host_code.specs.declared.instruction.Op.TheVariants as op
use Rattle.host_code.specs.Code.{CodeShape, host_of_site, part_of}
use Rattle.host_code.specs.Sound as sound
use Rattle.split_rules.specs.Emissions.{Emission}
use Rattle.split_rules.specs.SplitCode.{emitted_on, before_landing, landed}
use Rattle.split_rules.specs.Flow.{Scope, State, NodeFitsScope, ExpressionFitsScope, IsVariableInScope, IsOtherInScope}
use Rattle.split_rules.specs.Flow.{IsNamedEntryOn}
use Rattle.split_rules.specs.Flow.{OperationFitsScope}

-- the code has what the scope says
pub record HasScope (scope : Scope) (code : CodeShape) : Type 0 where
  pub hosts : length code.hosts ≡ scope.hosts
  pub fields : length code.fields ≡ scope.fields
  pub variables : length code.variables ≡ scope.variables
  pub sites : code.sites ≡ scope.sites

node_fits : (scope : Scope) (code : CodeShape) (count larger : ℕ) → HasScope scope code → count ≤ larger →
    (one : Node) → NodeFitsScope scope count one → sound.NodeFits code larger one
node_fits scope code count larger has more (node.Var variable) fits =
    let many = has.variables in
    omega arith
node_fits scope code count larger has more (node.Temp temporary) fits = omega arith
node_fits scope code count larger has more other fits = tt

expression_fits : (scope : Scope) (code : CodeShape) (count larger : ℕ) (nodes : List Node) → HasScope scope code →
    count ≤ larger → ExpressionFitsScope scope count nodes → sound.ExpressionFits code larger nodes
expression_fits scope code count larger nodes has more fits =
    All-weaker (NodeFitsScope scope count) (sound.NodeFits code larger) (node_fits scope code count larger has more)
    nodes
    fits

below : (few many number : ℕ) → few ≡ many → number < many → number < few
below few many number same less = omega arith

other_fits : (scope : Scope) (code : CodeShape) (me host : HostId) → HasScope scope code →
    IsOtherInScope scope me host →
    sound.IsOther code me host
other_fits scope code me host has other = (below (length code.hosts) scope.hosts host.0 has.hosts other.0, other.1)

variables_fit : (scope : Scope) (code : CodeShape) (variables : List VarId) → HasScope scope code →
    AllByRecursion (IsVariableInScope scope) variables → AllByRecursion (sound.IsVariable code) variables
variables_fit scope code [] has fit = tt
variables_fit scope code (variable ∷ variables) has fit = (
  below (length code.variables) scope.variables variable.0 has.variables fit.0,
  variables_fit scope code variables has fit.1,
)

-- the instruction to which a branch leads is there
abbrev pub Leads : CodeShape → List Emission → HostId → State → Op → Type 0
Leads code emissions me state (op.Branch guard number) =
    number ≡ state.branches →
    length (emitted_on me (before_landing number emissions)) < length (part_of code me)
Leads code emissions me state other = ⊤

pub operation_fits : (scope : Scope) (code : CodeShape) (emissions : List Emission) (state : State) (me : HostId)
    (count larger : ℕ) (what : Op) → HasScope scope code → count ≤ larger →
    ((on : HostId) (there : EntryId) → IsNamedEntryOn state.named on there → sound.IsEntryOn code on there) →
    Leads code emissions me state what →
    OperationFitsScope scope state me count what → sound.OperationFits code me larger (landed me emissions what)
operation_fits scope code emissions state me count larger (op.Read field index) has more entries leads fits = (
  below (length code.fields) scope.fields field.0 has.fields fits.0,
  expression_fits scope code count larger index has more fits.1,
)
operation_fits scope code emissions state me count larger (op.Let variable value) has more entries leads fits = (
  below (length code.variables) scope.variables variable.0 has.variables fits.0,
  expression_fits scope code count larger value has more fits.1,
)
operation_fits scope code emissions state me count larger (op.Put field index value) has more entries leads fits = (
  below (length code.fields) scope.fields field.0 has.fields fits.0,
  expression_fits scope code count larger index has more fits.1,
  expression_fits scope code count larger value has more fits.2,
)
operation_fits scope code emissions state me count larger (op.Send variable to) has more entries leads fits = (
  below (length code.variables) scope.variables variable.0 has.variables fits.0,
  other_fits scope code me to has fits.1,
)
operation_fits scope code emissions state me count larger (op.Frame site) has more entries leads fits =
    ap (λ sites. host_of_site sites site.0) has.sites ∙ fits
operation_fits scope code emissions state me count larger (op.Arg variable value) has more entries leads fits = (
  below (length code.variables) scope.variables variable.0 has.variables fits.0,
  expression_fits scope code count larger value has more fits.1,
)
operation_fits scope code emissions state me count larger (op.Pass variable to) has more entries leads fits = (
  below (length code.variables) scope.variables variable.0 has.variables fits.0,
  other_fits scope code me to has fits.1,
)
operation_fits scope code emissions state me count larger (op.Push there) has more entries leads fits =
    entries me there fits
operation_fits scope code emissions state me count larger (op.Ask there on) has more entries leads fits =
    (entries on there fits.0, other_fits scope code me on has fits.1)
operation_fits scope code emissions state me count larger (op.Go there on) has more entries leads fits =
    (entries on there fits.0, other_fits scope code me on has fits.1)
operation_fits scope code emissions state me count larger (op.Call there on) has more entries leads fits =
    (entries on there fits.0, below (length code.hosts) scope.hosts on.0 has.hosts fits.1)
operation_fits scope code emissions state me count larger (op.Ret variable value) has more entries leads fits = (
  below (length code.variables) scope.variables variable.0 has.variables fits.0,
  expression_fits scope code count larger value has more fits.1,
)
operation_fits scope code emissions state me count larger op.Back has more entries leads fits = tt
operation_fits scope code emissions state me count larger (op.Branch guard number) has more entries leads fits =
    (expression_fits scope code count larger guard has more fits.0, leads fits.1)
operation_fits scope code emissions state me count larger (op.GoWith there on riders) has more entries leads fits = (
  entries on there fits.0,
  other_fits scope code me on has fits.1,
  (fits.2.0, variables_fit scope code riders has fits.2.1),
)
operation_fits scope code emissions state me count larger (op.CallWith there on riders) has more entries leads fits = (
  entries on there fits.0,
  other_fits scope code me on has fits.1,
  (fits.2.0, variables_fit scope code riders has fits.2.1),
)
