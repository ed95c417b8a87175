-- What brings a trait into a label: a label that is written in the program, and the guard or the local through which it
-- came last.
--
-- The parts of an expression are looked at from the left and inner before outer, so an index before its array. The
-- program label comes behind them, and in it what was there before a guard comes before the guard. So a cause is the
-- first part that has the trait.
--
-- A released value has the confidentiality of the label that is written and of the program label, and the integrity of
-- its operand; an endorsed one the other way round. So where the cause is looked for depends on the trait.
use Rattle.std.specs.Prelude.{◌↔◌, ⊤, Bool, if◌then◌else◌, ◌==◌, Option, Some, None, IsSome, IsTrue, slice_get}
use Rattle.js_base.specs.declared.ids.VarId.{VarId}
use Rattle.js_base.specs.declared.ids.MethodId.{MethodId}
use Rattle.js_base.specs.declared.ids.StmtId.{StmtId}
use Rattle.label_lattice.specs.declared.label.Label.{Label}
use Rattle.label_lattice.specs.Label.{IsLabel}
use Rattle.label_lattice.specs.Lattice.{join_of}
use Rattle.jif_tree.specs.Trees.{ExprTree, number, local, scalar, element, inverted, negated, binary, declassified}
use Rattle.jif_tree.specs.Trees.{endorsed, BlockTree, done, set_local, set_field, set_element, branch, loop, call}
use Rattle.jif_tree.specs.Trees.{give_back}
use Rattle.jif_tree.specs.LabelRules.{MethodSetting, VariableLabels, expr_label, variable_label, field_label}
use Rattle.jif_tree.specs.LabelRules.{labels_after, labels_after_assignment, guarded}
use Rattle.jif_tree.specs.Labelling.{IsLabelled}
use Rattle.label_reasons.specs.declared.reason.Trait.{Trait}
use Rattle.label_reasons.specs.declared.reason.Trait.TheVariants.{Keeps, Distrusts}
use Rattle.label_reasons.specs.declared.reason.Source.{Source}
use Rattle.label_reasons.specs.declared.reason.Source.TheVariants.{OfField, OfVariable, OfBegin, Written}
use Rattle.label_reasons.specs.declared.reason.Via.{Via}
use Rattle.label_reasons.specs.declared.reason.Via.TheVariants.{Itself, ByLocal, ByGuard}
use Rattle.label_reasons.specs.declared.reason.Cause.{Cause}
use Rattle.label_reasons.specs.Traits.{has}

-- ---- causes of expressions

-- the first, and the second where there is none
abbrev pub or_else : Option Cause → Option Cause → Option Cause
or_else (Some first) second = Some first
or_else None second = second

-- this source, where its label has the trait
abbrev pub cause_where : Bool → Source → Option Cause
cause_where test source = if test then Some (record { source = source; via = Itself }) else None

-- what brings it into a released value of a statement, by the causes of the program label and of the operand
abbrev pub released_cause : Trait → StmtId → Option Cause → Label → Option Cause → Option Cause
released_cause (Keeps owner reader) here of_pc label operand =
    or_else (cause_where (has (Keeps owner reader) label) (Written here)) of_pc
released_cause (Distrusts principal) here of_pc label operand = operand

abbrev pub endorsed_cause : Trait → StmtId → Option Cause → Label → Option Cause → Option Cause
endorsed_cause (Keeps owner reader) here of_pc label operand = operand
endorsed_cause (Distrusts principal) here of_pc label operand =
    or_else (cause_where (has (Distrusts principal) label) (Written here)) of_pc

-- what brings it into an expression of a statement, by the causes of the program label and of variables
abbrev pub expr_cause : Trait → MethodSetting → StmtId → Option Cause → (VarId → Option Cause) → ExprTree → Option Cause
expr_cause trait setting here of_pc causes (number value) = None
expr_cause trait setting here of_pc causes (local x) = causes x
expr_cause trait setting here of_pc causes (scalar field) =
    cause_where (has trait (field_label setting.program field)) (OfField field)
expr_cause trait setting here of_pc causes (element field index) =
    or_else (expr_cause trait setting here of_pc causes index)
    (cause_where (has trait (field_label setting.program field)) (OfField field))
expr_cause trait setting here of_pc causes (inverted operand) = expr_cause trait setting here of_pc causes operand
expr_cause trait setting here of_pc causes (negated operand) = expr_cause trait setting here of_pc causes operand
expr_cause trait setting here of_pc causes (binary operator left right) =
    or_else (expr_cause trait setting here of_pc causes left) (expr_cause trait setting here of_pc causes right)
expr_cause trait setting here of_pc causes (declassified operand label) =
    released_cause trait here of_pc label (expr_cause trait setting here of_pc causes operand)
expr_cause trait setting here of_pc causes (endorsed operand label) =
    endorsed_cause trait here of_pc label (expr_cause trait setting here of_pc causes operand)

-- ---- causes along a block

-- what brings it into the program label of a method's head
abbrev pub begin_cause : Trait → MethodId → Label → Option Cause
begin_cause trait method begin = cause_where (has trait begin) (OfBegin method)

-- what brings it into a variable by the label with which that is declared, if there is one
abbrev pub label_cause : Trait → VarId → Option (Option Label) → Option Cause
label_cause trait x None = None
label_cause trait x (Some None) = None
label_cause trait x (Some (Some label)) = cause_where (has trait label) (OfVariable x)

abbrev pub declared_causes : Trait → VariableLabels → VarId → Option Cause
declared_causes trait labels x = label_cause trait x (slice_get labels x.0)

-- the same source, through this
abbrev pub through : Via → Option Cause → Option Cause
through via None = None
through via (Some cause) = Some (record { source = cause.source; via = via })

-- What brings it into the program label inside a branch or a loop. The cause of the guard is that under the program
-- label outside: a guard which releases would otherwise be looked for in itself.
abbrev pub guarded_cause : Trait → MethodSetting → StmtId → Option Cause → (VarId → Option Cause) → ExprTree →
    Option Cause
guarded_cause trait setting here of_pc causes guard =
    or_else of_pc (through (ByGuard here) (expr_cause trait setting here of_pc causes guard))

abbrev pub with_cause : (VarId → Option Cause) → VarId → Option Cause → VarId → Option Cause
with_cause causes x cause other = if other.0 == x.0 then cause else causes other

-- A local that has no label yet has the cause of what is assigned to it.
abbrev pub causes_after_assignment : VariableLabels → (VarId → Option Cause) → VarId → StmtId → Option Cause → VarId →
    Option Cause
causes_after_assignment labels causes x here cause = assigned (slice_get labels x.0)
  where
    assigned : Option (Option Label) → VarId → Option Cause
    assigned (Some None) = with_cause causes x (through (ByLocal x here) cause)
    assigned (Some (Some declared)) = causes
    assigned None = causes

-- the causes of variables behind a block, as their labels
abbrev pub causes_after : Trait → MethodSetting → Label → Option Cause → VariableLabels → (VarId → Option Cause) →
    BlockTree → VarId → Option Cause
causes_after trait setting pc of_pc labels causes done = causes
causes_after trait setting pc of_pc labels causes (set_local heading x value rest) =
    causes_after trait setting pc of_pc
    (labels_after_assignment labels x (join_of (expr_label setting pc labels value) pc))
    (causes_after_assignment labels causes x heading.id
    (or_else (expr_cause trait setting heading.id of_pc causes value) of_pc)) rest
causes_after trait setting pc of_pc labels causes (set_field heading field value rest) =
    causes_after trait setting pc of_pc labels causes rest
causes_after trait setting pc of_pc labels causes (set_element heading field index value rest) =
    causes_after trait setting pc of_pc labels causes rest
causes_after trait setting pc of_pc labels causes (branch heading guard first second rest) =
    let inside = guarded setting pc labels guard in
    let of_inside = guarded_cause trait setting heading.id of_pc causes guard in
    let between = labels_after setting inside labels first in
    let causes_between = causes_after trait setting inside of_inside labels causes first in
    causes_after trait setting pc of_pc (labels_after setting inside between second)
    (causes_after trait setting inside of_inside between causes_between second) rest
causes_after trait setting pc of_pc labels causes (loop heading guard body rest) =
    let inside = guarded setting pc labels guard in
    let of_inside = guarded_cause trait setting heading.id of_pc causes guard in
    causes_after trait setting pc of_pc (labels_after setting inside labels body)
    (causes_after trait setting inside of_inside labels causes body) rest
causes_after trait setting pc of_pc labels causes (call heading site method arguments into rest) =
    causes_after trait setting pc of_pc labels causes rest
causes_after trait setting pc of_pc labels causes (give_back heading value rest) =
    causes_after trait setting pc of_pc labels causes rest

-- ---- what causes tell

-- there is a cause exactly where the label has the trait
abbrev pub TellsCause : Trait → Option Cause → Label → Type 0
TellsCause trait cause label = IsSome cause ↔ IsTrue (has trait label)

-- so it is of each variable that has a label
abbrev pub TellsVariables : Trait → (VarId → Option Cause) → VariableLabels → Type 0
TellsVariables trait causes labels =
    (x : VarId) → IsLabelled labels x → TellsCause trait (causes x) (variable_label labels x)

-- what the label of an expression is made of are labels
abbrev pub IsMadeOfLabels : MethodSetting → Label → VariableLabels → ExprTree → Type 0
IsMadeOfLabels setting pc labels (number value) = ⊤
IsMadeOfLabels setting pc labels (local x) = ⊤
IsMadeOfLabels setting pc labels (scalar field) = ⊤
IsMadeOfLabels setting pc labels (element field index) =
    IsLabel (field_label setting.program field) × IsLabel (expr_label setting pc labels index)
    × IsMadeOfLabels setting pc labels index
IsMadeOfLabels setting pc labels (inverted operand) = IsMadeOfLabels setting pc labels operand
IsMadeOfLabels setting pc labels (negated operand) = IsMadeOfLabels setting pc labels operand
IsMadeOfLabels setting pc labels (binary operator left right) =
    IsLabel (expr_label setting pc labels left) × IsLabel (expr_label setting pc labels right)
    × IsMadeOfLabels setting pc labels left × IsMadeOfLabels setting pc labels right
IsMadeOfLabels setting pc labels (declassified operand label) =
    IsLabel label × IsLabel (join_of label pc) × IsMadeOfLabels setting pc labels operand
IsMadeOfLabels setting pc labels (endorsed operand label) =
    IsLabel label × IsLabel (expr_label setting pc labels operand) × IsMadeOfLabels setting pc labels operand

-- and so is what the labels of a block's locals, and the program labels inside its branches and loops, are made of
abbrev pub IsBlockOfLabels : MethodSetting → Label → VariableLabels → BlockTree → Type 0
IsBlockOfLabels setting pc labels done = ⊤
IsBlockOfLabels setting pc labels (set_local heading x value rest) =
    IsMadeOfLabels setting pc labels value × IsLabel (expr_label setting pc labels value)
    × IsBlockOfLabels setting pc (labels_after_assignment labels x (join_of (expr_label setting pc labels value) pc))
    rest
IsBlockOfLabels setting pc labels (set_field heading field value rest) = IsBlockOfLabels setting pc labels rest
IsBlockOfLabels setting pc labels (set_element heading field index value rest) =
    IsBlockOfLabels setting pc labels rest
IsBlockOfLabels setting pc labels (branch heading guard first second rest) =
    let inside = guarded setting pc labels guard in
    let between = labels_after setting inside labels first in
    IsMadeOfLabels setting pc labels guard × IsLabel (expr_label setting pc labels guard) × IsLabel inside
    × IsBlockOfLabels setting inside labels first × IsBlockOfLabels setting inside between second
    × IsBlockOfLabels setting pc (labels_after setting inside between second) rest
IsBlockOfLabels setting pc labels (loop heading guard body rest) =
    let inside = guarded setting pc labels guard in
    IsMadeOfLabels setting pc labels guard × IsLabel (expr_label setting pc labels guard) × IsLabel inside
    × IsBlockOfLabels setting inside labels body
    × IsBlockOfLabels setting pc (labels_after setting inside labels body) rest
IsBlockOfLabels setting pc labels (call heading site method arguments into rest) =
    IsBlockOfLabels setting pc labels rest
IsBlockOfLabels setting pc labels (give_back heading value rest) = IsBlockOfLabels setting pc labels rest
