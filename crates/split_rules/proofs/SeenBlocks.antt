-- The statements of a program that was checked and placed ask other hosts for what these grant, and tell them what they
-- may see: a program label flows to all that a statement sets, and what a statement reads flows to its host.
use Rattle.std.proofs.Common.{◌≡◌, ◌∙◌, ℕ, List, [], ◌∷◌, ◌++◌, map, length, refl, ap}
use Rattle.std.proofs.Common.{sym, subst, Bool}
use Rattle.std.specs.Prelude.{Option, Some, None, slice_get, slice_index}
use Rattle.std.specs.List.{AllByRecursion, flat_map}
use Rattle.js_base.specs.declared.ids.HostId.{HostId}
use Rattle.js_base.specs.declared.ids.FieldId.{FieldId}
use Rattle.js_base.specs.declared.ids.VarId.{VarId}
use Rattle.js_base.specs.declared.ids.StmtId.{StmtId}
use Rattle.js_base.specs.declared.ids.MethodId.{MethodId}
use Rattle.principals.specs.ActsFor.{Declared}
use Rattle.label_lattice.specs.declared.label.Label.{Label}
use Rattle.label_lattice.specs.Label.{ConfFlows}
use Rattle.label_lattice.specs.Lattice.{join_of}
use Rattle.jif_tree.specs.Trees.{ExprTree, number, local, scalar, element, inverted, negated, binary, declassified}
use Rattle.jif_tree.specs.Trees.{endorsed, BlockTree, done, set_local, set_field, set_element, branch, loop, call}
use Rattle.jif_tree.specs.Trees.{give_back, FieldTree, MethodTree}
use Rattle.jif_tree.specs.LabelRules.{MethodSetting, VariableLabels, setting_of, variable_label, field_label}
use Rattle.jif_tree.specs.LabelRules.{expr_label}
use Rattle.jif_tree.specs.LabelRules.{part_labels, Holds, expr_constraints, StatementLabels, flow_of, guarded}
use Rattle.jif_tree.specs.LabelRules.{argument_flows, result_flows, labels_after, block_labels}
use Rattle.jif_tree.specs.LabelRules.{labels_after_assignment, method_at, params_of, result_of, begin_label}
use Rattle.jif_tree.specs.LabelRules.{call_constraints, crossed}
use Rattle.jif_tree.specs.WellNumbered.{HasVariable, HasOptionalVariable, IsExprIn, IsBlockIn, IsMethodIn}
use Rattle.need_labels.specs.Labelled.{Labelled, pc_of, all_labels}
use Rattle.need_labels.specs.Needs.{StatementUse, statement_use, block_uses, Telling, tellings_in, variables_in}
use Rattle.need_labels.specs.Needs.{Backing, for_releases, label_of, labels_of, kept_result}
use Rattle.need_labels.specs.Plan.{statement_host, field_host}
use Rattle.msg_cost.specs.Moves.{PlannedShape, home_of}
use Rattle.jif_tree.specs.Labelling.{IsLabelled, IsLabelledIfAny, AreLabelled}
use Rattle.jif_tree.specs.ValueLabels.{IsExprLabelled, AreValuesLabelled}
use Rattle.jif_tree.proofs.LabelsKept.{Stay, stay_then, assignment_stays, block_stays, assigned_labelled}
use Rattle.split_rules.specs.Allowed.{IsTrustedHost}
use Rattle.split_rules.specs.Walk.{need_of}
use Rattle.split_rules.proofs.BackedLabels.{all_first, all_second, all_both, AreMet, variable_found}
use Rattle.split_rules.proofs.LabelsKept.{AreFinal, label_there}
use Rattle.split_rules.proofs.AllowedTyping.{IsNeeded}
use Rattle.split_rules.proofs.ToldEmissions.{Sees, Affects, PutsWell}
use Rattle.split_rules.proofs.ToldStatements.{ExprReadsWell, ReadersSee, GivesWell, KeepsWell, AnswersWell}
use Rattle.split_rules.proofs.ToldStatements.{ArgumentsWell, EntersWell, BlockTellsWell}
use Rattle.split_rules.proofs.SeenLabels.{flows_first, flows_second, sees_less, sees_both, folded_sees, trusted_host}
use Rattle.split_rules.proofs.SeenLabels.{changes_affected, reads_field, puts_field, affects_variable}

-- ---- expressions

-- what is known of all parts of an expression is known of the whole
pub whole_of_parts : (setting : MethodSetting) (pc : Label) (labels : VariableLabels) (Q : Label → Type 0)
    (expr : ExprTree) → AllByRecursion Q (part_labels setting pc labels expr) → Q (expr_label setting pc labels expr)
whole_of_parts setting pc labels Q (number value) parts = parts.0
whole_of_parts setting pc labels Q (local x) parts = parts.0
whole_of_parts setting pc labels Q (scalar field) parts = parts.0
whole_of_parts setting pc labels Q (element field index) parts =
    (all_second Q (part_labels setting pc labels index) _ parts).0
whole_of_parts setting pc labels Q (inverted operand) parts =
    (all_second Q (part_labels setting pc labels operand) _ parts).0
whole_of_parts setting pc labels Q (negated operand) parts =
    (all_second Q (part_labels setting pc labels operand) _ parts).0
whole_of_parts setting pc labels Q (binary operator left right) parts =
    (all_second Q (part_labels setting pc labels left ++ part_labels setting pc labels right) _ parts).0
whole_of_parts setting pc labels Q (declassified operand label) parts =
    (all_second Q (part_labels setting pc labels operand) _ parts).0
whole_of_parts setting pc labels Q (endorsed operand label) parts =
    (all_second Q (part_labels setting pc labels operand) _ parts).0

-- and of its variables
pub variables_of_parts : (labelled : Labelled) (setting : MethodSetting) (pc : Label) (Q : Label → Type 0)
    (expr : ExprTree) → AllByRecursion Q (part_labels setting pc (all_labels labelled) expr) →
    AllByRecursion (λ x. Q (label_of labelled x)) (variables_in expr)
variables_of_parts labelled setting pc Q (number value) parts = tt
variables_of_parts labelled setting pc Q (local x) parts = (parts.0, tt)
variables_of_parts labelled setting pc Q (scalar field) parts = tt
variables_of_parts labelled setting pc Q (element field index) parts =
    variables_of_parts labelled setting pc Q index
    (all_first Q (part_labels setting pc (all_labels labelled) index) _ parts)
variables_of_parts labelled setting pc Q (inverted operand) parts =
    variables_of_parts labelled setting pc Q operand
    (all_first Q (part_labels setting pc (all_labels labelled) operand) _ parts)
variables_of_parts labelled setting pc Q (negated operand) parts =
    variables_of_parts labelled setting pc Q operand
    (all_first Q (part_labels setting pc (all_labels labelled) operand) _ parts)
variables_of_parts labelled setting pc Q (binary operator left right) parts =
    let one = part_labels setting pc (all_labels labelled) left in
    let two = part_labels setting pc (all_labels labelled) right in
    let both = all_first Q (one ++ two) _ parts in
    all_both (λ (x : VarId). Q (label_of labelled x)) (variables_in left) (variables_in right)
    (variables_of_parts labelled setting pc Q left (all_first Q one two both))
    (variables_of_parts labelled setting pc Q right (all_second Q one two both))
variables_of_parts labelled setting pc Q (declassified operand label) parts =
    variables_of_parts labelled setting pc Q operand
    (all_first Q (part_labels setting pc (all_labels labelled) operand) _ parts)
variables_of_parts labelled setting pc Q (endorsed operand label) parts =
    variables_of_parts labelled setting pc Q operand
    (all_first Q (part_labels setting pc (all_labels labelled) operand) _ parts)

-- the host of a field may see what a read of it tells
abbrev pub IsToldWell : Labelled → PlannedShape → Telling → Type 0
IsToldWell labelled planned telling = (tree : FieldTree) →
    slice_get labelled.program.fields telling.field.0 ≡ Some tree →
    Sees planned (field_host planned.plan telling.field) telling.label

pub expr_reads_well : (principals : Declared) (labelled : Labelled) (planned : PlannedShape) (tree : MethodTree)
    (method : MethodId) (host : HostId) (pc : Label) (expr : ExprTree) → IsExprIn labelled.program method expr →
    let setting = setting_of principals labelled.program tree in
    AllByRecursion (Sees planned host) (part_labels setting pc (all_labels labelled) expr) →
    AllByRecursion (IsToldWell labelled planned) (tellings_in setting labelled pc expr) →
    ExprReadsWell labelled planned host pc expr
expr_reads_well principals labelled planned tree method host pc (number value) there parts told = tt
expr_reads_well principals labelled planned tree method host pc (local x) there parts told = tt
expr_reads_well principals labelled planned tree method host pc (scalar field) there parts told =
    reads_field labelled planned host pc field there.0 there.1 parts.0 (told.0 there.0 there.1)
expr_reads_well principals labelled planned tree method host pc (element field index) there parts told =
    let setting = setting_of principals labelled.program tree in
    let inner = part_labels setting pc (all_labels labelled) index in
    let own = tellings_in setting labelled pc index in
    let whole = (all_second (Sees planned host) inner _ parts).0 in
    let told_here = (all_second (IsToldWell labelled planned) own _ told).0 in
    let joined = join_of (field_label labelled.program field) (expr_label setting pc (all_labels labelled) index) in
    let field_there = there.0 in (
      expr_reads_well principals labelled planned tree method host pc index there.1
          (all_first (Sees planned host) inner _ parts) (all_first (IsToldWell labelled planned) own _ told),
      reads_field labelled planned host pc field field_there.0 field_there.1
          (sees_less planned host (field_label labelled.program field) joined
          (flows_first (field_label labelled.program field) (expr_label setting pc (all_labels labelled) index)) whole)
          (told_here field_there.0 field_there.1),
    )
expr_reads_well principals labelled planned tree method host pc (inverted operand) there parts told =
    expr_reads_well principals labelled planned tree method host pc operand there
    (all_first (Sees planned host) (part_labels (setting_of principals labelled.program tree) pc (all_labels labelled)
    operand) _ parts) told
expr_reads_well principals labelled planned tree method host pc (negated operand) there parts told =
    expr_reads_well principals labelled planned tree method host pc operand there
    (all_first (Sees planned host) (part_labels (setting_of principals labelled.program tree) pc (all_labels labelled)
    operand) _ parts) told
expr_reads_well principals labelled planned tree method host pc (binary operator left right) there parts told =
    let setting = setting_of principals labelled.program tree in
    let one = part_labels setting pc (all_labels labelled) left in
    let two = part_labels setting pc (all_labels labelled) right in
    let both = all_first (Sees planned host) (one ++ two) _ parts in
    let told_one = tellings_in setting labelled pc left in
    let told_two = tellings_in setting labelled pc right in (
      expr_reads_well principals labelled planned tree method host pc left there.0
          (all_first (Sees planned host) one two both) (all_first (IsToldWell labelled planned) told_one told_two told),
      expr_reads_well principals labelled planned tree method host pc right there.1
          (all_second (Sees planned host) one two both)
          (all_second (IsToldWell labelled planned) told_one told_two told),
    )
expr_reads_well principals labelled planned tree method host pc (declassified operand label) there parts told =
    expr_reads_well principals labelled planned tree method host pc operand there
    (all_first (Sees planned host) (part_labels (setting_of principals labelled.program tree) pc (all_labels labelled)
    operand) _ parts) told
expr_reads_well principals labelled planned tree method host pc (endorsed operand label) there parts told =
    expr_reads_well principals labelled planned tree method host pc operand there
    (all_first (Sees planned host) (part_labels (setting_of principals labelled.program tree) pc (all_labels labelled)
    operand) _ parts) told

-- a guard whose variables have labels has the same label behind the whole program
pub guard_same : (labelled : Labelled) (setting : MethodSetting) (pc : Label) (labels final : VariableLabels) →
    AreFinal labelled final → Stay labels final → (expr : ExprTree) → IsExprLabelled labels expr →
    expr_label setting pc labels expr ≡ expr_label setting pc (all_labels labelled) expr
guard_same labelled setting pc labels final are stay (number value) has = refl
guard_same labelled setting pc labels final are stay (local x) has =
    sym (label_there labelled labels final are stay x has)
guard_same labelled setting pc labels final are stay (scalar field) has = refl
guard_same labelled setting pc labels final are stay (element field index) has =
    ap (λ label. join_of (field_label setting.program field) label)
    (guard_same labelled setting pc labels final are stay index has)
guard_same labelled setting pc labels final are stay (inverted operand) has =
    guard_same labelled setting pc labels final are stay operand has
guard_same labelled setting pc labels final are stay (negated operand) has =
    guard_same labelled setting pc labels final are stay operand has
guard_same labelled setting pc labels final are stay (binary operator left right) has =
    ap (λ label. join_of label (expr_label setting pc labels right))
    (guard_same labelled setting pc labels final are stay left has.0)
    ∙ ap (λ label. join_of (expr_label setting pc (all_labels labelled) left) label)
    (guard_same labelled setting pc labels final are stay right has.1)
guard_same labelled setting pc labels final are stay (declassified operand label) has =
    ap (λ it. crossed (join_of label pc) it) (guard_same labelled setting pc labels final are stay operand has)
guard_same labelled setting pc labels final are stay (endorsed operand label) has =
    ap (λ it. crossed it (join_of label pc)) (guard_same labelled setting pc labels final are stay operand has)

-- ---- statements

-- a statement of the needs: its host is trusted for it, sees what it tells, and so do the hosts of the fields it reads
pub record IsUseWell (labelled : Labelled) (planned : PlannedShape) (principals : Declared) (one : StatementUse) :
    Type 0 where
  pub needed : IsNeeded planned principals one
  pub sees : Sees planned (statement_host planned.plan one.id) one.used
  pub tellings : AllByRecursion (IsToldWell labelled planned) one.tellings

-- the same of a statement with these expressions under a program label
pub record OwnWell (labelled : Labelled) (planned : PlannedShape) (setting : MethodSetting) (host : HostId) (pc : Label)
    (exprs : List ExprTree) (told changed : List Label) : Type 0 where
  pub pc_seen : Sees planned host pc
  pub parts : AllByRecursion (Sees planned host) (flat_map (part_labels setting pc (all_labels labelled)) exprs)
  pub told_seen : AllByRecursion (Sees planned host) told
  pub tellings : AllByRecursion (IsToldWell labelled planned) (flat_map (tellings_in setting labelled pc) exprs)
  pub affected : AllByRecursion (Affects planned host) changed

pub own_well : (labelled : Labelled) (planned : PlannedShape) (principals : Declared) (setting : MethodSetting)
    (id : StmtId) (pc : Label) (exprs : List ExprTree) (told changed : List Label) (nested : List Backing) →
    pc_of labelled id ≡ pc →
    IsUseWell labelled planned principals (statement_use labelled setting id exprs told changed nested) →
    OwnWell labelled planned setting (statement_host planned.plan id) pc exprs told changed
own_well labelled planned principals setting id pc exprs told changed nested is well = subst P is own
  where
    P : Label → Type 0
    P it = OwnWell labelled planned setting (statement_host planned.plan id) it exprs told changed

    own : P (pc_of labelled id)
    own =
        let host = statement_host planned.plan id in
        let before = pc_of labelled id in
        let parts = flat_map (part_labels setting before (all_labels labelled)) exprs in
        let seen = folded_sees planned host before (parts ++ told) well.sees in
        let need = slice_index planned.needs.need id.0 in
        record {
          pc_seen = seen.0;
          parts = all_first (Sees planned host) parts told seen.1;
          told_seen = all_second (Sees planned host) parts told seen.1;
          tellings = well.tellings;
          affected = changes_affected planned principals host need
              (trusted_host planned host id well.needed.trusted) changed (for_releases setting exprs) nested
              well.needed.need;
        }

-- ---- flows

pub flow_seen : (principals : Declared) (pc from to : Label) → Holds principals (flow_of pc from to) → ConfFlows pc to
flow_seen principals pc from to holds owner reader owner_in reader_in forbids =
    holds.0 owner reader owner_in reader_in (flows_second from pc owner reader owner_in reader_in forbids)

-- each host with a statement that reads a variable may see its label
abbrev pub AllReadersSee : Labelled → PlannedShape → Type 0
AllReadersSee labelled planned = (x : VarId) → ReadersSee planned (label_of labelled x) x

-- the host of a field may see it
abbrev pub AllFieldsSeen : Labelled → PlannedShape → Type 0
AllFieldsSeen labelled planned = (field : FieldId) (tree : FieldTree) →
    slice_get labelled.program.fields field.0 ≡ Some tree →
    Sees planned (field_host planned.plan field) (field_label labelled.program field)

-- The home of a method may see its begin label, and its parameters and its result are there. Whoever affects the begin
-- label is trusted for the head.
pub record MethodWell (labelled : Labelled) (planned : PlannedShape) (principals : Declared) (place : ℕ)
    (tree : MethodTree) : Type 0 where
  pub home : Sees planned (home_of planned tree) tree.begin
  pub numbered : IsMethodIn labelled.program (record { 0 = place }) tree
  pub trusted : (host : HostId) → Affects planned host tree.begin →
      IsTrustedHost planned.hosts (need_of planned (tree.head ∷ [])) host

-- what is known of the whole program
pub record ProgramWell (labelled : Labelled) (planned : PlannedShape) (principals : Declared) : Type 0 where
  pub many : length labelled.var_labels ≡ length labelled.program.vars
  pub readers : AllReadersSee labelled planned
  pub fields : AllFieldsSeen labelled planned
  pub methods : (place : ℕ) (tree : MethodTree) → slice_get labelled.program.methods place ≡ Some tree →
      MethodWell labelled planned principals place tree

-- a variable that has a label is given a value
pub gives_variable : (labelled : Labelled) (planned : PlannedShape) (principals : Declared) →
    ProgramWell labelled planned principals → (labels final : VariableLabels) → AreFinal labelled final →
    Stay labels final → (method : MethodId) (host : HostId) (pc from : Label) (x : VarId) →
    HasVariable labelled.program method x → IsLabelled labels x →
    Holds principals (flow_of pc from (variable_label labels x)) → Affects planned host (label_of labelled x) →
    GivesWell labelled planned host pc x
gives_variable labelled planned principals program labels final are stay method host pc from x there has holds affects =
    let label = variable_label labels x in
    let same = label_there labelled labels final are stay x has in
    let P : Label → Type 0 = λ it. ConfFlows pc it in
    let flows = subst P (sym same) (flow_seen principals pc from label holds) in (
      affects_variable labelled planned host method x program.many there affects,
      λ to reads. sees_less planned to pc (label_of labelled x) flows (program.readers x to reads),
    )

-- ---- each kind of statement

-- the first expression of a statement
first_reads : (principals : Declared) (labelled : Labelled) (planned : PlannedShape) (tree : MethodTree)
    (method : MethodId) (host : HostId) (pc : Label) (expr : ExprTree) (others : List ExprTree)
    (told changed : List Label) → IsExprIn labelled.program method expr →
    let setting = setting_of principals labelled.program tree in
    OwnWell labelled planned setting host pc (expr ∷ others) told changed →
    ExprReadsWell labelled planned host pc expr
first_reads principals labelled planned tree method host pc expr others told changed there own =
    let setting = setting_of principals labelled.program tree in
    expr_reads_well principals labelled planned tree method host pc expr there
    (all_first (Sees planned host) (part_labels setting pc (all_labels labelled) expr) _ own.parts)
    (all_first (IsToldWell labelled planned) (tellings_in setting labelled pc expr) _ own.tellings)

second_reads : (principals : Declared) (labelled : Labelled) (planned : PlannedShape) (tree : MethodTree)
    (method : MethodId) (host : HostId) (pc : Label) (first expr : ExprTree) (others : List ExprTree)
    (told changed : List Label) → IsExprIn labelled.program method expr →
    let setting = setting_of principals labelled.program tree in
    OwnWell labelled planned setting host pc (first ∷ expr ∷ others) told changed →
    ExprReadsWell labelled planned host pc expr
second_reads principals labelled planned tree method host pc first expr others told changed there own =
    let setting = setting_of principals labelled.program tree in
    let parts = all_second (Sees planned host) (part_labels setting pc (all_labels labelled) first) _ own.parts in
    let tellings = all_second (IsToldWell labelled planned) (tellings_in setting labelled pc first) _ own.tellings in
    expr_reads_well principals labelled planned tree method host pc expr there
    (all_first (Sees planned host) (part_labels setting pc (all_labels labelled) expr) _ parts)
    (all_first (IsToldWell labelled planned) (tellings_in setting labelled pc expr) _ tellings)

-- a field is set to which the program label flows
puts_well : (labelled : Labelled) (planned : PlannedShape) (principals : Declared) →
    ProgramWell labelled planned principals → (host : HostId) (pc from : Label) (field : FieldId) (tree : FieldTree) →
    slice_get labelled.program.fields field.0 ≡ Some tree →
    Holds principals (flow_of pc from (field_label labelled.program field)) →
    Affects planned host (field_label labelled.program field) → PutsWell labelled planned host pc field
puts_well labelled planned principals program host pc from field tree is holds affects =
    let label = field_label labelled.program field in
    puts_field labelled planned host pc field tree is affects
    (sees_less planned (field_host planned.plan field) pc label (flow_seen principals pc from label holds)
    (program.fields field tree is))

arguments_well : (principals : Declared) (labelled : Labelled) (planned : PlannedShape) (tree : MethodTree) →
    ProgramWell labelled planned principals → (labels final : VariableLabels) → AreFinal labelled final →
    Stay labels final → (method called : MethodId) (host : HostId) (pc : Label) (params : List VarId)
    (arguments : List ExprTree) → AllByRecursion (IsExprIn labelled.program method) arguments →
    let setting = setting_of principals labelled.program tree in
    AllByRecursion (HasVariable labelled.program called) params → AllByRecursion (IsLabelled labels) params →
    AllByRecursion (Holds principals) (argument_flows setting pc labels arguments params) →
    AllByRecursion (Sees planned host) (flat_map (part_labels setting pc (all_labels labelled)) arguments) →
    AllByRecursion (IsToldWell labelled planned) (flat_map (tellings_in setting labelled pc) arguments) →
    AllByRecursion (Affects planned host) (map (label_of labelled) params) →
    ArgumentsWell labelled planned host pc params arguments
arguments_well principals labelled planned tree program labels final are stay method called host pc params [] there
    params_there has holds parts told affects = tt
arguments_well principals labelled planned tree program labels final are stay method called host pc []
    (argument ∷ others) there params_there has holds parts told affects = tt
arguments_well principals labelled planned tree program labels final are stay method called host pc (param ∷ params)
    (argument ∷ others) there params_there has holds parts told affects =
    let setting = setting_of principals labelled.program tree in
    let own = part_labels setting pc (all_labels labelled) argument in
    let own_told = tellings_in setting labelled pc argument in (
      expr_reads_well principals labelled planned tree method host pc argument there.0
          (all_first (Sees planned host) own _ parts) (all_first (IsToldWell labelled planned) own_told _ told),
      gives_variable labelled planned principals program labels final are stay called host pc
          (expr_label setting pc labels argument) param params_there.0 has.0 holds.0 affects.0,
      arguments_well principals labelled planned tree program labels final are stay method called host pc params others
          there.1 params_there.1 has.1 holds.1 (all_second (Sees planned host) own _ parts)
          (all_second (IsToldWell labelled planned) own_told _ told) affects.1,
    )

keeps_well : (labelled : Labelled) (planned : PlannedShape) (principals : Declared) →
    ProgramWell labelled planned principals → (labels final : VariableLabels) → AreFinal labelled final →
    Stay labels final → (method : MethodId) (host : HostId) (pc : Label) (result into : Option VarId) →
    HasOptionalVariable labelled.program method into → IsLabelledIfAny labels into →
    AllByRecursion (Holds principals) (result_flows pc labels result into) →
    AllByRecursion (Affects planned host) (labels_of labelled into) →
    KeepsWell labelled planned host pc result into
keeps_well labelled planned principals program labels final are stay method host pc (Some result) (Some x) there has
    holds affects =
    gives_variable labelled planned principals program labels final are stay method host pc
    (variable_label labels result) x there has holds.0 affects.0
keeps_well labelled planned principals program labels final are stay method host pc (Some result) None there has
    holds affects = tt
keeps_well labelled planned principals program labels final are stay method host pc None (Some x) there has holds
    affects = tt
keeps_well labelled planned principals program labels final are stay method host pc None None there has holds
    affects = tt

none_not_some : {X : Type 0} (found : Option X) (x : X) → found ≡ None → found ≡ Some x → ⊥
none_not_some found x is also = let same : None ≡ Some x = sym is ∙ also in absurd (cc)

-- a call: its arguments, the entry of its method, and its result
record CallWell (labelled : Labelled) (planned : PlannedShape) (host : HostId) (pc : Label) (method : MethodId)
    (found : Option MethodTree) (arguments : List ExprTree) (into : Option VarId) : Type 0 where
  arguments_well : ArgumentsWell labelled planned host pc (params_of found) arguments
  enters : EntersWell labelled planned host pc method
  keeps : KeepsWell labelled planned host pc (result_of found) into

call_well : (principals : Declared) (labelled : Labelled) (planned : PlannedShape) (tree : MethodTree) →
    ProgramWell labelled planned principals → (labels final : VariableLabels) → AreFinal labelled final →
    Stay labels final → (own called : MethodId) (host : HostId) (pc : Label) (found : Option MethodTree)
    (arguments : List ExprTree) (into : Option VarId) → (there : MethodTree) →
    method_at labelled.program called ≡ Some there → method_at labelled.program called ≡ found →
    AllByRecursion (IsExprIn labelled.program own) arguments →
    HasOptionalVariable labelled.program own into →
    AllByRecursion (IsLabelled labels) (params_of found) → IsLabelledIfAny labels into →
    let setting = setting_of principals labelled.program tree in
    AllByRecursion (Holds principals) (call_constraints setting pc labels found arguments into) →
    OwnWell labelled planned setting host pc arguments (begin_label found ∷ kept_result labelled found into)
    (begin_label found ∷ map (label_of labelled) (params_of found) ++ labels_of labelled into) →
    CallWell labelled planned host pc called found arguments into
call_well principals labelled planned tree program labels final are stay own called host pc None arguments into there
    there_is found_is args_there into_there has into_has holds well =
    absurd (none_not_some (method_at labelled.program called) there found_is there_is)
call_well principals labelled planned tree program labels final are stay own called host pc (Some found) arguments into
    there there_is found_is args_there into_there has into_has holds well =
    let setting = setting_of principals labelled.program tree in
    let method_well = program.methods called.0 found found_is in
    let params = map (label_of labelled) found.params in
    let flows = all_first (Holds principals) (argument_flows setting pc labels arguments found.params) _ holds.1 in
    let kept = all_second (Holds principals) (argument_flows setting pc labels arguments found.params) _ holds.1 in
    record {
      arguments_well = arguments_well principals labelled planned tree program labels final are stay own
          (record { 0 = called.0 }) host pc found.params arguments args_there method_well.numbered.params has flows
          well.parts well.tellings (all_first (Affects planned host) params _ well.affected.1);
      enters = record {
        tree = found;
        is = found_is;
        sender = well.told_seen.0;
        trusted = method_well.trusted host well.affected.0;
        receiver = sees_less planned (home_of planned found) pc found.begin holds.0.0 method_well.home;
      };
      keeps = keeps_well labelled planned principals program labels final are stay own host pc found.result into
          into_there into_has kept (all_second (Affects planned host) params _ well.affected.1);
    }

answers_well : (labelled : Labelled) (planned : PlannedShape) (principals : Declared) →
    ProgramWell labelled planned principals → (method : MethodId) (host : HostId) (result : Option VarId) →
    HasOptionalVariable labelled.program method result →
    AllByRecursion (Affects planned host) (labels_of labelled result) → AnswersWell labelled planned host result
answers_well labelled planned principals program method host None there affects = tt
answers_well labelled planned principals program method host (Some result) there affects =
    affects_variable labelled planned host method result program.many there affects.0

-- ---- blocks

-- all that is asked for a statement holds
abbrev pub IsMet : Declared → StatementLabels → Type 0
IsMet principals one = AllByRecursion (Holds principals) one.constraints

-- the program label of a statement is that of the label check
abbrev pub IsKept : Labelled → StatementLabels → Type 0
IsKept labelled one = pc_of labelled one.statement ≡ one.pc

abbrev pub AreLabelsKept : Labelled → List StatementLabels → Type 0
AreLabelsKept labelled statements = AllByRecursion (IsKept labelled) statements

abbrev pub AreUsesWell : Labelled → PlannedShape → Declared → List StatementUse → Type 0
AreUsesWell labelled planned principals uses = AllByRecursion (IsUseWell labelled planned principals) uses

pub block_well : (principals : Declared) (labelled : Labelled) (planned : PlannedShape) (tree : MethodTree) →
    ProgramWell labelled planned principals → (method : MethodId) →
    HasOptionalVariable labelled.program method tree.result → (gives : Bool) (final : VariableLabels) →
    AreFinal labelled final → (pc : Label) (labels : VariableLabels) →
    length labels ≡ length labelled.program.vars → (block : BlockTree) →
    let setting = setting_of principals labelled.program tree in
    Stay (labels_after setting pc labels block) final → IsBlockIn labelled.program method gives block →
    AreLabelled setting pc labels block → AreValuesLabelled setting pc labels block →
    AreMet principals (block_labels setting pc labels block) →
    AreLabelsKept labelled (block_labels setting pc labels block) →
    AreUsesWell labelled planned principals (block_uses labelled setting block) →
    BlockTellsWell labelled planned setting pc block
block_well principals labelled planned tree program method result_there gives final are pc labels many done stay there
    has values met kept uses = tt
block_well principals labelled planned tree program method result_there gives final are pc labels many
    (set_local heading x value rest) stay there has values met kept uses =
    let setting = setting_of principals labelled.program tree in
    let host = statement_host planned.plan heading.id in
    let from = expr_label setting pc labels value in
    let after = labels_after_assignment labels x (join_of from pc) in
    let behind = labels_after setting pc after rest in
    let own = own_well labelled planned principals setting heading.id pc (value ∷ []) [] (label_of labelled x ∷ []) []
    kept.0 uses.0 in
    let flows = (all_second (Holds principals) (expr_constraints setting pc labels value) _ met.0).0 in
    let variable = variable_found labelled method x labels many there.0 in (
      own.pc_seen,
      first_reads principals labelled planned tree method host pc value [] _ _ there.1 own,
      gives_variable labelled planned principals program after final are
          (stay_then after behind final (block_stays setting pc after rest) stay) method host pc from x there.0
          (assigned_labelled labels x (join_of from pc) variable.0 variable.1) flows own.affected.0,
      block_well principals labelled planned tree program method result_there gives final are pc after
          ((assignment_stays labels x (join_of from pc)).many ∙ many) rest stay there.2 has values.1 met.1 kept.1
          uses.1,
    )
block_well principals labelled planned tree program method result_there gives final are pc labels many
    (set_field heading field value rest) stay there has values met kept uses =
    let setting = setting_of principals labelled.program tree in
    let host = statement_host planned.plan heading.id in
    let own = own_well labelled planned principals setting heading.id pc (value ∷ []) []
    (field_label labelled.program field ∷ []) [] kept.0 uses.0 in
    let flows = (all_second (Holds principals) (expr_constraints setting pc labels value) _ met.0).0 in (
      own.pc_seen,
      first_reads principals labelled planned tree method host pc value [] _ _ there.1 own,
      puts_well labelled planned principals program host pc (expr_label setting pc labels value) field there.0.0
          there.0.1 flows own.affected.0,
      block_well principals labelled planned tree program method result_there gives final are pc labels many rest stay
          there.2 has values.1 met.1 kept.1 uses.1,
    )
block_well principals labelled planned tree program method result_there gives final are pc labels many
    (set_element heading field index value rest) stay there has values met kept uses =
    let setting = setting_of principals labelled.program tree in
    let host = statement_host planned.plan heading.id in
    let own = own_well labelled planned principals setting heading.id pc (index ∷ value ∷ []) []
    (field_label labelled.program field ∷ []) [] kept.0 uses.0 in
    let one = expr_constraints setting pc labels index in
    let two = expr_constraints setting pc labels value in
    let from = join_of (expr_label setting pc labels index) (expr_label setting pc labels value) in
    let flows = (all_second (Holds principals) (one ++ two) _ met.0).0 in (
      own.pc_seen,
      first_reads principals labelled planned tree method host pc index (value ∷ []) _ _ there.1 own,
      second_reads principals labelled planned tree method host pc index value [] _ _ there.2 own,
      puts_well labelled planned principals program host pc from field there.0.0 there.0.1 flows own.affected.0,
      block_well principals labelled planned tree program method result_there gives final are pc labels many rest stay
          there.3 has values.2 met.1 kept.1 uses.1,
    )
block_well principals labelled planned tree program method result_there gives final are pc labels many
    (branch heading guard first second rest) stay there has values met kept uses =
    let setting = setting_of principals labelled.program tree in
    let host = statement_host planned.plan heading.id in
    let inside = guarded setting pc labels guard in
    let between = labels_after setting inside labels first in
    let behind = labels_after setting inside between second in
    let end = labels_after setting pc behind rest in
    let first_stays = block_stays setting inside labels first in
    let second_stays = block_stays setting inside between second in
    let rest_stays = stay_then behind end final (block_stays setting pc behind rest) stay in
    let from_second = stay_then between behind final second_stays rest_stays in
    let from_first = stay_then labels between final first_stays from_second in
    let labels_one = block_labels setting inside labels first in
    let labels_two = block_labels setting inside between second in
    let uses_one = block_uses labelled setting first in
    let uses_two = block_uses labelled setting second in
    let both_met = all_first (IsMet principals) (labels_one ++ labels_two) _ met.1 in
    let both_kept = all_first (IsKept labelled) (labels_one ++ labels_two) _ kept.1 in
    let both_uses = all_first (IsUseWell labelled planned principals) (uses_one ++ uses_two) _ uses.1 in
    let own = own_well labelled planned principals setting heading.id pc (guard ∷ []) [] [] _ kept.0 uses.0 in
    let same = ap (λ label. join_of pc label) (guard_same labelled setting pc labels final are from_first guard
    values.0) in
    let P : BlockTree → Label → Type 0 = λ block it. BlockTellsWell labelled planned setting it block in
    let guard_parts =
    all_first (Sees planned host) (part_labels setting pc (all_labels labelled) guard) _ own.parts in (
      own.pc_seen,
      first_reads principals labelled planned tree method host pc guard [] _ _ there.0 own,
      sees_both planned host pc (expr_label setting pc (all_labels labelled) guard) own.pc_seen
          (whole_of_parts setting pc (all_labels labelled) (Sees planned host) guard guard_parts),
      subst (P first) same (block_well principals labelled planned tree program method result_there gives final are
          inside labels many first from_second there.1 has.0 values.1
          (all_first (IsMet principals) labels_one labels_two both_met)
          (all_first (IsKept labelled) labels_one labels_two both_kept)
          (all_first (IsUseWell labelled planned principals) uses_one uses_two both_uses)),
      subst (P second) same (block_well principals labelled planned tree program method result_there gives final are
          inside between (first_stays.many ∙ many) second rest_stays there.2 has.1 values.2
          (all_second (IsMet principals) labels_one labels_two both_met)
          (all_second (IsKept labelled) labels_one labels_two both_kept)
          (all_second (IsUseWell labelled planned principals) uses_one uses_two both_uses)),
      block_well principals labelled planned tree program method result_there gives final are pc behind
          (second_stays.many ∙ first_stays.many ∙ many) rest stay there.3 has.2 values.3
          (all_second (IsMet principals) (labels_one ++ labels_two) _ met.1)
          (all_second (IsKept labelled) (labels_one ++ labels_two) _ kept.1)
          (all_second (IsUseWell labelled planned principals) (uses_one ++ uses_two) _ uses.1),
    )
block_well principals labelled planned tree program method result_there gives final are pc labels many
    (loop heading guard inner rest) stay there has values met kept uses =
    let setting = setting_of principals labelled.program tree in
    let host = statement_host planned.plan heading.id in
    let inside = guarded setting pc labels guard in
    let behind = labels_after setting inside labels inner in
    let end = labels_after setting pc behind rest in
    let inner_stays = block_stays setting inside labels inner in
    let rest_stays = stay_then behind end final (block_stays setting pc behind rest) stay in
    let from_inner = stay_then labels behind final inner_stays rest_stays in
    let labels_one = block_labels setting inside labels inner in
    let uses_one = block_uses labelled setting inner in
    let own = own_well labelled planned principals setting heading.id inside (guard ∷ []) [] [] _ kept.0 uses.0 in
    let same = ap (λ label. join_of pc label) (guard_same labelled setting pc labels final are from_inner guard
    values.0) in
    let P : Label → Type 0 = λ it. ExprReadsWell labelled planned host it guard in
    let Q : Label → Type 0 = λ it. Sees planned host it in
    let R : Label → Type 0 = λ it. BlockTellsWell labelled planned setting it inner in (
      sees_less planned host pc inside (flows_first pc (expr_label setting pc labels guard)) own.pc_seen,
      subst P same (first_reads principals labelled planned tree method host inside guard [] _ _ there.0 own),
      subst Q same own.pc_seen,
      subst R same (block_well principals labelled planned tree program method result_there gives final are inside
          labels
          many inner rest_stays there.1 has.0 values.1 (all_first (IsMet principals) labels_one _ met.1)
          (all_first (IsKept labelled) labels_one _ kept.1)
          (all_first (IsUseWell labelled planned principals) uses_one _ uses.1)),
      block_well principals labelled planned tree program method result_there gives final are pc behind
          (inner_stays.many ∙ many) rest stay there.2 has.1 values.2 (all_second (IsMet principals) labels_one _ met.1)
          (all_second (IsKept labelled) labels_one _ kept.1)
          (all_second (IsUseWell labelled planned principals) uses_one _ uses.1),
    )
block_well principals labelled planned tree program method result_there gives final are pc labels many
    (call heading site called arguments into rest) stay there has values met kept uses =
    let setting = setting_of principals labelled.program tree in
    let host = statement_host planned.plan heading.id in
    let end = labels_after setting pc labels rest in
    let stays = stay_then labels end final (block_stays setting pc labels rest) stay in
    let found = method_at labelled.program called in
    let own = own_well labelled planned principals setting heading.id pc arguments
    (begin_label found ∷ kept_result labelled found into)
    (begin_label found ∷ map (label_of labelled) (params_of found) ++ labels_of labelled into) [] kept.0 uses.0 in
    let asked = all_second (Holds principals) (flat_map (expr_constraints setting pc labels) arguments) _ met.0 in
    let well = call_well principals labelled planned tree program labels final are stays method called host pc found
    arguments into there.0.0 there.0.1 refl there.1 there.2 has.0 has.1 asked own in (
      own.pc_seen,
      well.arguments_well,
      well.enters,
      well.keeps,
      block_well principals labelled planned tree program method result_there gives final are pc labels many rest stay
          there.3 has.2 values.1 met.1 kept.1 uses.1,
    )
block_well principals labelled planned tree program method result_there gives final are pc labels many
    (give_back heading value rest) stay there has values met kept uses =
    let setting = setting_of principals labelled.program tree in
    let host = statement_host planned.plan heading.id in
    let own = own_well labelled planned principals setting heading.id pc (value ∷ []) []
    (labels_of labelled setting.result) [] kept.0 uses.0 in (
      own.pc_seen,
      first_reads principals labelled planned tree method host pc value [] _ _ there.1 own,
      answers_well labelled planned principals program method host tree.result result_there own.affected,
      block_well principals labelled planned tree program method result_there gives final are pc labels many rest stay
          there.2 has.1 values.1 met.1 kept.1 uses.1,
    )
