-- The rules of labels: which label each expression has, which program label each statement, and what is asked of them.
-- A program label stands above all that the execution of a statement tells (Denning; Myers and Liskov).
--
-- The rules of labels are a list. Each statement has the list of what it asks of labels, each with its cause, in the
-- order in which a refusal looks at it. A program is accepted where all of them hold, and refused for the first that
-- does not, so neither is the loop of the check.
--
-- A local without a label has that of its value before its flow is asked for. So every assignment asks for one flow in
-- the same way, and the one of such a declaration always holds.
--
-- A released value is a join and a meet. The confidentiality of one label with the integrity of another is the first
-- joined with `{}`, which nobody trusts, and met with the second. So a label needs no constructor that takes both
-- apart.
use Rattle.std.specs.Prelude.{◌≡◌, ℕ, ◌<◌, ◌⊎◌, List, [], ◌∷◌, ◌++◌, map, All, Any}
use Rattle.std.specs.Prelude.{Option, Some, None, unwrap_or, slice_get, slice_set}
use Rattle.std.specs.List.{flat_map}
use Rattle.std.specs.Option.{option_map}
use Rattle.js_base.specs.declared.ids.FieldId.{FieldId}
use Rattle.js_base.specs.declared.ids.VarId.{VarId}
use Rattle.js_base.specs.declared.ids.MethodId.{MethodId}
use Rattle.js_base.specs.declared.ids.StmtId.{StmtId}
use Rattle.js_base.specs.declared.ids.PrincipalId.{PrincipalId}
use Rattle.js_base.specs.declared.limits.TheConstants.{PRINCIPALS}
use Rattle.principals.specs.ActsFor.{Declared, ActsFor}
use Rattle.label_lattice.specs.declared.label.Label.{Label}
use Rattle.label_lattice.specs.declared.label.TheConstants.{READERS}
use Rattle.label_lattice.specs.Label.{Forbids, Trusts, Flows, PolicyForbids}
use Rattle.label_lattice.specs.Lattice.{empty_label, bottom_of, join_of, meet_of}
use Rattle.jif_tree.specs.Trees.{ExprTree, number, local, scalar, element, inverted, negated, binary, declassified}
use Rattle.jif_tree.specs.Trees.{endorsed, BlockTree, done, set_local, set_field, set_element, branch, loop}
use Rattle.jif_tree.specs.Trees.{call, give_back, MethodTree, ProgramTree}

-- ---- the labels of what has a name

-- The labels of the variables, by their numbers. A local that is declared without a label has none before its
-- declaration.
abbrev pub VariableLabels : Type 0
VariableLabels = List (Option Label)

abbrev pub variable_label : VariableLabels → VarId → Label
variable_label labels x = unwrap_or (unwrap_or (slice_get labels x.0) None) empty_label

-- A variable that has no label yet takes the label of what is assigned to it.
abbrev pub labels_after_assignment : VariableLabels → VarId → Label → VariableLabels
labels_after_assignment labels x label = labelled (slice_get labels x.0)
  where
    labelled : Option (Option Label) → VariableLabels
    labelled (Some None) = slice_set labels x.0 (Some label)
    labelled (Some (Some declared)) = labels
    labelled None = labels

abbrev pub field_label : ProgramTree → FieldId → Label
field_label program field = unwrap_or (option_map (λ tree. tree.label) (slice_get program.fields field.0)) empty_label

-- ---- expressions

-- what every place of a method has in common
pub record MethodSetting : Type 0 where
  pub principals : Declared
  pub program : ProgramTree
  -- the principals by whose authority the method releases and endorses
  pub authority : List PrincipalId
  pub result : Option VarId

-- the confidentiality of the first label and the integrity of the second
abbrev pub crossed : Label → Label → Label
crossed first second = meet_of (join_of first empty_label) second

-- The label of an expression under a program label. A released value has the confidentiality that is written, and an
-- endorsed one the integrity, each joined with that of the program label, since what is released or endorsed tells that
-- the program came there.
abbrev pub expr_label : MethodSetting → Label → VariableLabels → ExprTree → Label
expr_label setting pc labels (number value) = bottom_of setting.principals
expr_label setting pc labels (local x) = variable_label labels x
expr_label setting pc labels (scalar field) = field_label setting.program field
expr_label setting pc labels (element field index) =
    join_of (field_label setting.program field) (expr_label setting pc labels index)
expr_label setting pc labels (inverted operand) = expr_label setting pc labels operand
expr_label setting pc labels (negated operand) = expr_label setting pc labels operand
expr_label setting pc labels (binary operator left right) =
    join_of (expr_label setting pc labels left) (expr_label setting pc labels right)
expr_label setting pc labels (declassified operand label) =
    crossed (join_of label pc) (expr_label setting pc labels operand)
expr_label setting pc labels (endorsed operand label) =
    crossed (expr_label setting pc labels operand) (join_of label pc)

-- the labels of an expression and of all expressions in it, inner before outer and from the left
abbrev pub part_labels : MethodSetting → Label → VariableLabels → ExprTree → List Label
part_labels setting pc labels (number value) = expr_label setting pc labels (number value) ∷ []
part_labels setting pc labels (local x) = expr_label setting pc labels (local x) ∷ []
part_labels setting pc labels (scalar field) = expr_label setting pc labels (scalar field) ∷ []
part_labels setting pc labels (element field index) =
    part_labels setting pc labels index ++ expr_label setting pc labels (element field index) ∷ []
part_labels setting pc labels (inverted operand) =
    part_labels setting pc labels operand ++ expr_label setting pc labels (inverted operand) ∷ []
part_labels setting pc labels (negated operand) =
    part_labels setting pc labels operand ++ expr_label setting pc labels (negated operand) ∷ []
part_labels setting pc labels (binary operator left right) =
    part_labels setting pc labels left ++ part_labels setting pc labels right
    ++ expr_label setting pc labels (binary operator left right) ∷ []
part_labels setting pc labels (declassified operand label) =
    part_labels setting pc labels operand ++ expr_label setting pc labels (declassified operand label) ∷ []
part_labels setting pc labels (endorsed operand label) =
    part_labels setting pc labels operand ++ expr_label setting pc labels (endorsed operand label) ∷ []

-- ---- constraints

-- what is asked of labels, each kind for a cause of its own
pub data Constraint : Type 0 where
  -- these principals may release a value of the first label as one of the second
  may_release : List PrincipalId → Label → Label → Constraint
  -- the program label is trusted by each of these principals, who are to release
  trusted : List PrincipalId → Label → Constraint
  -- these principals may endorse a value of the first label as one of the second
  may_endorse : List PrincipalId → Label → Label → Constraint
  -- a method may be called under this program label that begins under that
  may_begin : Label → Label → Constraint
  may_flow : Label → Label → Constraint

-- A principal may release what the policies forbid that it owns or that are owned by those for whom it acts. It may
-- endorse in the name of whomever it acts for.
abbrev pub Holds : Declared → Constraint → Type 0
Holds principals (may_release authority from to) =
    (owner reader : ℕ) → owner < PRINCIPALS → reader < READERS → Forbids from owner reader →
    Forbids to owner reader ⊎ Any (λ member. PolicyForbids principals member [] owner reader) authority
Holds principals (trusted authority pc) = All (λ member. Trusts pc member.0) authority
Holds principals (may_endorse authority from to) =
    (principal : ℕ) → principal < READERS → Trusts to principal →
    Trusts from principal ⊎ Any (λ member. ActsFor principals member.0 principal) authority
Holds principals (may_begin pc begin) = Flows pc begin
Holds principals (may_flow from to) = Flows from to

-- what is asked for the expressions in an expression, inner before outer and from the left
abbrev pub expr_constraints : MethodSetting → Label → VariableLabels → ExprTree → List Constraint
expr_constraints setting pc labels (number value) = []
expr_constraints setting pc labels (local x) = []
expr_constraints setting pc labels (scalar field) = []
expr_constraints setting pc labels (element field index) = expr_constraints setting pc labels index
expr_constraints setting pc labels (inverted operand) = expr_constraints setting pc labels operand
expr_constraints setting pc labels (negated operand) = expr_constraints setting pc labels operand
expr_constraints setting pc labels (binary operator left right) =
    expr_constraints setting pc labels left ++ expr_constraints setting pc labels right
expr_constraints setting pc labels (declassified operand label) =
    expr_constraints setting pc labels operand
    ++ may_release setting.authority (expr_label setting pc labels operand) label
    ∷ trusted setting.authority pc ∷ []
expr_constraints setting pc labels (endorsed operand label) =
    expr_constraints setting pc labels operand
    ++ may_endorse setting.authority (expr_label setting pc labels operand) label ∷ []

-- ---- statements

-- a statement as it is checked
pub record StatementLabels : Type 0 where
  pub statement : StmtId
  -- its program label, and for a loop that of its guard
  pub pc : Label
  -- the labels of all its expressions under that
  pub parts : List Label
  pub constraints : List Constraint

-- what is asked for the flow of a value's label, joined with the program label
abbrev pub flow_of : Label → Label → Label → Constraint
flow_of pc from to = may_flow (join_of from pc) to

-- the program label inside a branch or a loop
abbrev pub guarded : MethodSetting → Label → VariableLabels → ExprTree → Label
guarded setting pc labels guard = join_of pc (expr_label setting pc labels guard)

-- ---- calls

abbrev pub method_at : ProgramTree → MethodId → Option MethodTree
method_at program method = slice_get program.methods method.0

abbrev pub begin_label : Option MethodTree → Label
begin_label called = unwrap_or (option_map (λ tree. tree.begin) called) empty_label

abbrev pub params_of : Option MethodTree → List VarId
params_of called = unwrap_or (option_map (λ tree. tree.params) called) []

abbrev pub result_of : Option MethodTree → Option VarId
result_of called = unwrap_or (option_map (λ tree. tree.result) called) None

-- each argument flows to its parameter
abbrev pub argument_flows : MethodSetting → Label → VariableLabels → List ExprTree → List VarId →
    List Constraint
argument_flows setting pc labels [] params = []
argument_flows setting pc labels (argument ∷ arguments) [] = []
argument_flows setting pc labels (argument ∷ arguments) (param ∷ params) =
    flow_of pc (expr_label setting pc labels argument) (variable_label labels param)
    ∷ argument_flows setting pc labels arguments params

-- the result flows to the variable that keeps it
abbrev pub result_flows : Label → VariableLabels → Option VarId → Option VarId → List Constraint
result_flows pc labels (Some result) (Some into) =
    flow_of pc (variable_label labels result) (variable_label labels into) ∷ []
result_flows pc labels result into = []

-- what is asked for a call whose arguments are checked
abbrev pub call_constraints : MethodSetting → Label → VariableLabels → Option MethodTree → List ExprTree →
    Option VarId → List Constraint
call_constraints setting pc labels called arguments into =
    may_begin pc (begin_label called) ∷ argument_flows setting pc labels arguments (params_of called)
    ++ result_flows pc labels (result_of called) into

-- what a method gives back flows to its result
abbrev pub return_flows : Label → VariableLabels → Option VarId → Label → List Constraint
return_flows pc labels None from = []
return_flows pc labels (Some result) from = flow_of pc from (variable_label labels result) ∷ []

-- ---- blocks

-- the labels of the variables behind a block
abbrev pub labels_after : MethodSetting → Label → VariableLabels → BlockTree → VariableLabels
labels_after setting pc labels done = labels
labels_after setting pc labels (set_local heading x value rest) =
    labels_after setting pc
    (labels_after_assignment labels x (join_of (expr_label setting pc labels value) pc)) rest
labels_after setting pc labels (set_field heading field value rest) = labels_after setting pc labels rest
labels_after setting pc labels (set_element heading field index value rest) = labels_after setting pc labels rest
labels_after setting pc labels (branch heading guard first second rest) =
    let inside = guarded setting pc labels guard in
    labels_after setting pc (labels_after setting inside (labels_after setting inside labels first) second) rest
labels_after setting pc labels (loop heading guard body rest) =
    labels_after setting pc (labels_after setting (guarded setting pc labels guard) labels body) rest
labels_after setting pc labels (call heading site method arguments into rest) = labels_after setting pc labels rest
labels_after setting pc labels (give_back heading value rest) = labels_after setting pc labels rest

-- The statements of a block and of the blocks in it, in the order of the text. A local that is declared without a label
-- has that of its value when its flow is asked for, so this flow always holds. The guard of a loop is asked for twice:
-- under the program label of the loop, and under that of its body.
abbrev pub block_labels : MethodSetting → Label → VariableLabels → BlockTree → List StatementLabels
block_labels setting pc labels done = []
block_labels setting pc labels (set_local heading x value rest) =
    let from = expr_label setting pc labels value in
    let after = labels_after_assignment labels x (join_of from pc) in
    record {
      statement = heading.id;
      pc = pc;
      parts = part_labels setting pc labels value;
      constraints = expr_constraints setting pc labels value ++ flow_of pc from (variable_label after x) ∷ [];
    } ∷ block_labels setting pc after rest
block_labels setting pc labels (set_field heading field value rest) =
    record {
      statement = heading.id;
      pc = pc;
      parts = part_labels setting pc labels value;
      constraints = expr_constraints setting pc labels value
          ++ flow_of pc (expr_label setting pc labels value) (field_label setting.program field) ∷ [];
    } ∷ block_labels setting pc labels rest
block_labels setting pc labels (set_element heading field index value rest) =
    record {
      statement = heading.id;
      pc = pc;
      parts = part_labels setting pc labels index ++ part_labels setting pc labels value;
      constraints = expr_constraints setting pc labels index ++ expr_constraints setting pc labels value
          ++ flow_of pc (join_of (expr_label setting pc labels index) (expr_label setting pc labels value))
          (field_label setting.program field) ∷ [];
    } ∷ block_labels setting pc labels rest
block_labels setting pc labels (branch heading guard first second rest) =
    let inside = guarded setting pc labels guard in
    let between = labels_after setting inside labels first in
    record {
      statement = heading.id;
      pc = pc;
      parts = part_labels setting pc labels guard;
      constraints = expr_constraints setting pc labels guard;
    } ∷ block_labels setting inside labels first ++ block_labels setting inside between second
    ++ block_labels setting pc (labels_after setting inside between second) rest
block_labels setting pc labels (loop heading guard body rest) =
    let inside = guarded setting pc labels guard in
    record {
      statement = heading.id;
      pc = inside;
      parts = part_labels setting inside labels guard;
      constraints = expr_constraints setting pc labels guard ++ expr_constraints setting inside labels guard;
    } ∷ block_labels setting inside labels body
    ++ block_labels setting pc (labels_after setting inside labels body) rest
block_labels setting pc labels (call heading site method arguments into rest) =
    record {
      statement = heading.id;
      pc = pc;
      parts = flat_map (part_labels setting pc labels) arguments;
      constraints = flat_map (expr_constraints setting pc labels) arguments
          ++ call_constraints setting pc labels (method_at setting.program method) arguments into;
    } ∷ block_labels setting pc labels rest
block_labels setting pc labels (give_back heading value rest) =
    record {
      statement = heading.id;
      pc = pc;
      parts = part_labels setting pc labels value;
      constraints = expr_constraints setting pc labels value
          ++ return_flows pc labels setting.result (expr_label setting pc labels value);
    } ∷ block_labels setting pc labels rest

-- ---- methods and programs

abbrev pub setting_of : Declared → ProgramTree → MethodTree → MethodSetting
setting_of principals program method =
    record { principals = principals; program = program; authority = method.authority; result = method.result }

-- the body of a method is checked under its begin label, which is the program label of its head
abbrev pub method_labels : MethodSetting → VariableLabels → MethodTree → List StatementLabels
method_labels setting labels method =
    record { statement = method.head; pc = method.begin; parts = []; constraints = [] }
    ∷ block_labels setting method.begin labels method.body

abbrev pub methods_labels : Declared → ProgramTree → VariableLabels → List MethodTree →
    List StatementLabels
methods_labels principals program labels [] = []
methods_labels principals program labels (method ∷ methods) =
    let setting = setting_of principals program method in
    method_labels setting labels method
    ++ methods_labels principals program (labels_after setting method.begin labels method.body) methods

abbrev pub labels_after_methods : Declared → ProgramTree → VariableLabels → List MethodTree → VariableLabels
labels_after_methods principals program labels [] = labels
labels_after_methods principals program labels (method ∷ methods) =
    labels_after_methods principals program
    (labels_after (setting_of principals program method) method.begin labels method.body) methods

-- the labels with which variables are declared
abbrev pub declared_labels : ProgramTree → VariableLabels
declared_labels program = map (λ variable. variable.label) program.vars

-- the statements of a program as they are checked, by their numbers
abbrev pub program_labels : Declared → ProgramTree → List StatementLabels
program_labels principals program = methods_labels principals program (declared_labels program) program.methods

-- the labels of all variables
abbrev pub variable_labels : Declared → ProgramTree → List Label
variable_labels principals program =
    map (λ label. unwrap_or label empty_label)
    (labels_after_methods principals program (declared_labels program) program.methods)

-- ---- which programs are accepted

-- a constraint that a statement asks for
pub record Obligation : Type 0 where
  pub statement : StmtId
  pub constraint : Constraint

abbrev pub obligations_of : List StatementLabels → List Obligation
obligations_of statements = flat_map
    (λ one. map (λ constraint. record { statement = one.statement; constraint = constraint }) one.constraints)
    statements

-- all that is asked for, in the order in which a refusal looks at it
abbrev pub obligations : Declared → ProgramTree → List Obligation
obligations principals program = obligations_of (program_labels principals program)

abbrev pub Meets : Declared → Obligation → Type 0
Meets principals obligation = Holds principals obligation.constraint

abbrev pub IsWellLabelled : Declared → ProgramTree → Type 0
IsWellLabelled principals program = All (Meets principals) (obligations principals program)

-- all before it are met, and it is not
pub record IsFirstFailure (principals : Declared) (all : List Obligation) (failed : Obligation) : Type 0 where
  pub before : List Obligation
  pub behind : List Obligation
  pub place : all ≡ before ++ failed ∷ behind
  pub met : All (Meets principals) before
  pub fails : ¬ Meets principals failed
