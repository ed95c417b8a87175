-- What the statements of a block ask of other hosts and tell them, under the program label of the block.
use Rattle.std.specs.Prelude.{◌≡◌, true, List, [], ◌∷◌, Option, Some, None, ⊤}
use Rattle.js_base.specs.declared.ids.HostId.{HostId}
use Rattle.js_base.specs.declared.ids.VarId.{VarId}
use Rattle.js_base.specs.declared.ids.MethodId.{MethodId}
use Rattle.label_lattice.specs.declared.label.Label.{Label}
use Rattle.jif_tree.specs.Trees.{ExprTree, number, local, scalar, element, inverted, negated, binary, declassified}
use Rattle.jif_tree.specs.Trees.{endorsed, BlockTree, done, set_local, set_field, set_element, branch, loop, call}
use Rattle.jif_tree.specs.Trees.{give_back, MethodTree}
use Rattle.jif_tree.specs.LabelRules.{MethodSetting, guarded, method_at, params_of, result_of}
use Rattle.need_labels.specs.Labelled.{Labelled, all_labels}
use Rattle.need_labels.specs.Plan.{statement_host}
use Rattle.msg_cost.specs.Moves.{PlannedShape, home_of}
use Rattle.msg_cost.specs.Terms.{reads_on}
use Rattle.split_rules.specs.Allowed.{IsTrustedHost}
use Rattle.split_rules.specs.Walk.{need_of}
use Rattle.split_rules.proofs.ToldEmissions.{Sees, AffectsVariable, ReadsWell, PutsWell}

-- ---- expressions

abbrev pub ExprReadsWell : Labelled → PlannedShape → HostId → Label → ExprTree → Type 0
ExprReadsWell labelled planned host pc (number value) = ⊤
ExprReadsWell labelled planned host pc (local x) = ⊤
ExprReadsWell labelled planned host pc (scalar field) = ReadsWell labelled planned host pc field
ExprReadsWell labelled planned host pc (element field index) =
    ExprReadsWell labelled planned host pc index × ReadsWell labelled planned host pc field
ExprReadsWell labelled planned host pc (inverted operand) = ExprReadsWell labelled planned host pc operand
ExprReadsWell labelled planned host pc (negated operand) = ExprReadsWell labelled planned host pc operand
ExprReadsWell labelled planned host pc (binary operator left right) =
    ExprReadsWell labelled planned host pc left × ExprReadsWell labelled planned host pc right
ExprReadsWell labelled planned host pc (declassified operand label) = ExprReadsWell labelled planned host pc operand
ExprReadsWell labelled planned host pc (endorsed operand label) = ExprReadsWell labelled planned host pc operand

-- ---- variables

-- each host with a statement that reads the variable may see the program label
abbrev pub ReadersSee : PlannedShape → Label → VarId → Type 0
ReadersSee planned pc x = (to : HostId) → reads_on planned x to.0 ≡ true → Sees planned to pc

-- a host gives a variable a value
abbrev pub GivesWell : Labelled → PlannedShape → HostId → Label → VarId → Type 0
GivesWell labelled planned host pc x = AffectsVariable labelled planned host x × ReadersSee planned pc x

-- a result that is kept
abbrev pub KeepsWell : Labelled → PlannedShape → HostId → Label → Option VarId → Option VarId → Type 0
KeepsWell labelled planned host pc (Some result) (Some into) = GivesWell labelled planned host pc into
KeepsWell labelled planned host pc result into = ⊤

-- a result that is given back
abbrev pub AnswersWell : Labelled → PlannedShape → HostId → Option VarId → Type 0
AnswersWell labelled planned host None = ⊤
AnswersWell labelled planned host (Some result) = AffectsVariable labelled planned host result

-- ---- calls

abbrev pub ArgumentsWell : Labelled → PlannedShape → HostId → Label → List VarId → List ExprTree → Type 0
ArgumentsWell labelled planned host pc params [] = ⊤
ArgumentsWell labelled planned host pc [] (argument ∷ others) = ⊤
ArgumentsWell labelled planned host pc (param ∷ params) (argument ∷ others) =
    ExprReadsWell labelled planned host pc argument × GivesWell labelled planned host pc param
    × ArgumentsWell labelled planned host pc params others

-- the method is there, its caller may see its begin label and is trusted for its head, and its home may see the program
-- label of the call
pub record EntersWell (labelled : Labelled) (planned : PlannedShape) (host : HostId) (pc : Label) (method : MethodId) :
    Type 0 where
  pub tree : MethodTree
  pub is : method_at labelled.program method ≡ Some tree
  pub sender : Sees planned host tree.begin
  pub trusted : IsTrustedHost planned.hosts (need_of planned (tree.head ∷ [])) host
  pub receiver : Sees planned (home_of planned tree) pc

-- ---- blocks

abbrev pub BlockTellsWell : Labelled → PlannedShape → MethodSetting → Label → BlockTree → Type 0
BlockTellsWell labelled planned setting pc done = ⊤
BlockTellsWell labelled planned setting pc (set_local heading x value rest) =
    let host = statement_host planned.plan heading.id in
    Sees planned host pc × ExprReadsWell labelled planned host pc value × GivesWell labelled planned host pc x
    × BlockTellsWell labelled planned setting pc rest
BlockTellsWell labelled planned setting pc (set_field heading field value rest) =
    let host = statement_host planned.plan heading.id in
    Sees planned host pc × ExprReadsWell labelled planned host pc value × PutsWell labelled planned host pc field
    × BlockTellsWell labelled planned setting pc rest
BlockTellsWell labelled planned setting pc (set_element heading field index value rest) =
    let host = statement_host planned.plan heading.id in
    Sees planned host pc × ExprReadsWell labelled planned host pc index × ExprReadsWell labelled planned host pc value
    × PutsWell labelled planned host pc field × BlockTellsWell labelled planned setting pc rest
BlockTellsWell labelled planned setting pc (branch heading guard first second rest) =
    let host = statement_host planned.plan heading.id in
    let inside = guarded setting pc (all_labels labelled) guard in
    Sees planned host pc × ExprReadsWell labelled planned host pc guard × Sees planned host inside
    × BlockTellsWell labelled planned setting inside first × BlockTellsWell labelled planned setting inside second
    × BlockTellsWell labelled planned setting pc rest
BlockTellsWell labelled planned setting pc (loop heading guard inner rest) =
    let host = statement_host planned.plan heading.id in
    let inside = guarded setting pc (all_labels labelled) guard in
    Sees planned host pc × ExprReadsWell labelled planned host inside guard × Sees planned host inside
    × BlockTellsWell labelled planned setting inside inner × BlockTellsWell labelled planned setting pc rest
BlockTellsWell labelled planned setting pc (call heading site method arguments into rest) =
    let host = statement_host planned.plan heading.id in
    let called = method_at labelled.program method in
    Sees planned host pc × ArgumentsWell labelled planned host pc (params_of called) arguments
    × EntersWell labelled planned host pc method × KeepsWell labelled planned host pc (result_of called) into
    × BlockTellsWell labelled planned setting pc rest
BlockTellsWell labelled planned setting pc (give_back heading value rest) =
    let host = statement_host planned.plan heading.id in
    Sees planned host pc × ExprReadsWell labelled planned host pc value
    × AnswersWell labelled planned host setting.result × BlockTellsWell labelled planned setting pc rest
