-- Each value of a program flows to where its statement keeps it, and so does the program label, by which it is known
-- that the statement ran. Whoever answers a read may see which element is asked for.
use Rattle.std.specs.Prelude.{◌≡◌, ℕ, true, List, [], ◌∷◌, Option, Some, None, slice_get, ⊤}
use Rattle.std.specs.List.{AllByRecursion}
use Rattle.std.specs.Option.{IsSomeAnd}
use Rattle.js_base.specs.declared.ids.HostId.{HostId}
use Rattle.js_base.specs.declared.ids.FieldId.{FieldId}
use Rattle.js_base.specs.declared.ids.VarId.{VarId}
use Rattle.label_lattice.specs.declared.label.Label.{Label}
use Rattle.label_lattice.specs.Label.{ConfFlows}
use Rattle.jif_tree.specs.Trees.{ExprTree, local, BlockTree, done, set_local, set_field, set_element, branch, loop}
use Rattle.jif_tree.specs.Trees.{call, give_back, FieldTree, MethodTree, ProgramTree}
use Rattle.jif_tree.specs.LabelRules.{MethodSetting, setting_of, field_label, guarded, declared_labels, method_at}
use Rattle.jif_tree.specs.LabelRules.{begin_label, params_of, result_of}
use Rattle.jif_tree.specs.Labelling.{IsLabelledIfAny}
use Rattle.need_labels.specs.Labelled.{all_labels}
use Rattle.need_labels.specs.Needs.{label_of}
use Rattle.need_labels.specs.Plan.{field_host}
use Rattle.msg_cost.specs.Moves.{PlannedShape}
use Rattle.msg_cost.specs.Terms.{reads_on}
use Rattle.split_rules.specs.Positions.{FieldRead, field_reads}
use Rattle.split_shades.specs.Basis.{Basis, value_label}

-- ---- what is asked of programs

-- Each method that has a result declares it with a label. Without one, a call would ask for no more than the label that
-- the result has when the call is checked, which may be less than what is given back later.
abbrev pub AreResultsLabelled : ProgramTree → Type 0
AreResultsLabelled program = (place : ℕ) (tree : MethodTree) → slice_get program.methods place ≡ Some tree →
    IsLabelledIfAny (declared_labels program) tree.result

-- ---- values

-- the host is there, and may see the label
abbrev pub IsSeenOn : PlannedShape → HostId → Label → Type 0
IsSeenOn planned host label = IsSomeAnd (slice_get planned.hosts.hosts host.0) (λ row. ConfFlows label row.label)

-- the host of a field may see which element a read asks for
abbrev pub IsIndexSeen : Basis → PlannedShape → Label → FieldRead → Type 0
IsIndexSeen basis planned pc read =
    IsSeenOn planned (field_host planned.plan read.field) (value_label basis pc read.index)

abbrev pub AreIndexesSeen : Basis → PlannedShape → Label → ExprTree → Type 0
AreIndexesSeen basis planned pc value = AllByRecursion (IsIndexSeen basis planned pc) (field_reads value)

-- A value is evaluated under a program label and kept under another label, to which both flow.
pub record ValueFlows (basis : Basis) (planned : PlannedShape) (pc : Label) (value : ExprTree) (to : Label) :
    Type 0 where
  pub indexes : AreIndexesSeen basis planned pc value
  pub program : ConfFlows pc to
  pub value_flows : ConfFlows (value_label basis pc value) to

-- ---- calls

-- each argument is kept in its parameter
abbrev pub ArgumentsFlow : Basis → PlannedShape → Label → List VarId → List ExprTree → Type 0
ArgumentsFlow basis planned pc params [] = ⊤
ArgumentsFlow basis planned pc [] (argument ∷ others) = ⊤
ArgumentsFlow basis planned pc (param ∷ params) (argument ∷ others) =
    ValueFlows basis planned pc argument (label_of basis.labelled param)
    × ArgumentsFlow basis planned pc params others

-- the result of a call, which there is where one is kept, as the value of a variable
abbrev pub ResultFlows : Basis → PlannedShape → Label → Option VarId → Option VarId → Type 0
ResultFlows basis planned pc result None = ⊤
ResultFlows basis planned pc None (Some into) = ⊥
ResultFlows basis planned pc (Some result) (Some into) =
    ValueFlows basis planned pc (local result) (label_of basis.labelled into)

-- a value is kept in the result of its method, which has one
abbrev pub AnswerFlows : Basis → PlannedShape → Label → Option VarId → ExprTree → Type 0
AnswerFlows basis planned pc None value = ⊥
AnswerFlows basis planned pc (Some result) value =
    ValueFlows basis planned pc value (label_of basis.labelled result)

-- ---- blocks

-- The statements of a block under its program label. What a guard tells flows to the program label of the blocks
-- inside, and that of a loop is evaluated under this label itself.
abbrev pub BlockFlows : Basis → PlannedShape → MethodSetting → Label → BlockTree → Type 0
BlockFlows basis planned setting pc done = ⊤
BlockFlows basis planned setting pc (set_local heading x value rest) =
    ValueFlows basis planned pc value (label_of basis.labelled x) × BlockFlows basis planned setting pc rest
BlockFlows basis planned setting pc (set_field heading field value rest) =
    ValueFlows basis planned pc value (field_label basis.labelled.program field)
    × BlockFlows basis planned setting pc rest
BlockFlows basis planned setting pc (set_element heading field index value rest) =
    ValueFlows basis planned pc index (field_label basis.labelled.program field)
    × ValueFlows basis planned pc value (field_label basis.labelled.program field)
    × BlockFlows basis planned setting pc rest
BlockFlows basis planned setting pc (branch heading guard first second rest) =
    let inside = guarded setting pc (all_labels basis.labelled) guard in
    ValueFlows basis planned pc guard inside × BlockFlows basis planned setting inside first
    × BlockFlows basis planned setting inside second × BlockFlows basis planned setting pc rest
BlockFlows basis planned setting pc (loop heading guard inner rest) =
    let inside = guarded setting pc (all_labels basis.labelled) guard in
    ConfFlows pc inside × ValueFlows basis planned inside guard inside
    × BlockFlows basis planned setting inside inner × BlockFlows basis planned setting pc rest
BlockFlows basis planned setting pc (call heading site method arguments into rest) =
    let called = method_at basis.labelled.program method in
    ConfFlows pc (begin_label called) × ArgumentsFlow basis planned pc (params_of called) arguments
    × ResultFlows basis planned pc (result_of called) into × BlockFlows basis planned setting pc rest
BlockFlows basis planned setting pc (give_back heading value rest) =
    AnswerFlows basis planned pc setting.result value × BlockFlows basis planned setting pc rest

-- ---- programs

abbrev pub MethodFlows : Basis → PlannedShape → MethodTree → Type 0
MethodFlows basis planned method =
    BlockFlows basis planned (setting_of basis.principals basis.labelled.program method) method.begin method.body

-- The values of all methods flow, each host of a field may see the field, and each host with a statement that reads a
-- variable may see the variable.
pub record AllFlow (basis : Basis) (planned : PlannedShape) : Type 0 where
  pub methods : AllByRecursion (MethodFlows basis planned) basis.labelled.program.methods
  pub fields : (field : FieldId) (tree : FieldTree) → slice_get basis.labelled.program.fields field.0 ≡ Some tree →
      IsSeenOn planned (field_host planned.plan field) (field_label basis.labelled.program field)
  pub readers : (x : VarId) (to : HostId) → reads_on planned x to.0 ≡ true →
      IsSeenOn planned to (label_of basis.labelled x)
