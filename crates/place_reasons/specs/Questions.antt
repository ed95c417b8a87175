-- What brings a pair into what a statement tells, for each statement of a program.
--
-- The walk is that of the rules of labels, for one trait alone. What is asked of each statement is one of three: what
-- brings the trait into its program label, into the first of the expressions in its own expressions that has it, or
-- into the first index by which it reads an array.
use Rattle.std.specs.Prelude.{ℕ, ◌+◌, ◌==◌, if◌then◌else◌, List, [], ◌∷◌, ◌++◌, Option, None}
use Rattle.std.specs.Prelude.{slice_get, unwrap_or}
use Rattle.js_base.specs.declared.ids.FieldId.{FieldId}
use Rattle.js_base.specs.declared.ids.VarId.{VarId}
use Rattle.js_base.specs.declared.ids.StmtId.{StmtId}
use Rattle.principals.specs.ActsFor.{Declared}
use Rattle.label_lattice.specs.declared.label.Label.{Label}
use Rattle.label_lattice.specs.Lattice.{join_of}
use Rattle.jif_tree.specs.Trees.{ExprTree, number, local, scalar, element, inverted, negated, binary, declassified}
use Rattle.jif_tree.specs.Trees.{endorsed, BlockTree, done, set_local, set_field, set_element, branch, loop, call}
use Rattle.jif_tree.specs.Trees.{give_back, MethodTree, ProgramTree}
use Rattle.jif_tree.specs.LabelRules.{MethodSetting, VariableLabels, expr_label, guarded, labels_after}
use Rattle.jif_tree.specs.LabelRules.{labels_after_assignment, setting_of, declared_labels}
use Rattle.label_reasons.specs.declared.reason.Trait.{Trait}
use Rattle.label_reasons.specs.declared.reason.Cause.{Cause}
use Rattle.label_reasons.specs.Causes.{or_else, expr_cause, begin_cause, declared_causes, guarded_cause, causes_after}
use Rattle.label_reasons.specs.Causes.{causes_after_assignment}
use Rattle.place_reasons.specs.declared.question.Question.{Question}
use Rattle.place_reasons.specs.declared.question.Question.TheVariants.{OfRun, OfUse, OfIndex}
use Rattle.place_reasons.specs.Firsts.{or_first, first_some}

-- ---- expressions

-- into the first of the expressions in an expression that has it, inner before outer and from the left
abbrev pub use_cause : Trait → MethodSetting → StmtId → Option Cause → (VarId → Option Cause) → ExprTree → Option Cause
use_cause trait setting here of_pc causes (number value) = None
use_cause trait setting here of_pc causes (local x) = expr_cause trait setting here of_pc causes (local x)
use_cause trait setting here of_pc causes (scalar field) = expr_cause trait setting here of_pc causes (scalar field)
use_cause trait setting here of_pc causes (element field index) =
    or_first (use_cause trait setting here of_pc causes index)
    (expr_cause trait setting here of_pc causes (element field index))
use_cause trait setting here of_pc causes (inverted operand) =
    or_first (use_cause trait setting here of_pc causes operand)
    (expr_cause trait setting here of_pc causes (inverted operand))
use_cause trait setting here of_pc causes (negated operand) =
    or_first (use_cause trait setting here of_pc causes operand)
    (expr_cause trait setting here of_pc causes (negated operand))
use_cause trait setting here of_pc causes (binary operator left right) =
    or_first (use_cause trait setting here of_pc causes left)
    (or_first (use_cause trait setting here of_pc causes right)
    (expr_cause trait setting here of_pc causes (binary operator left right)))
use_cause trait setting here of_pc causes (declassified operand label) =
    or_first (use_cause trait setting here of_pc causes operand)
    (expr_cause trait setting here of_pc causes (declassified operand label))
use_cause trait setting here of_pc causes (endorsed operand label) =
    or_first (use_cause trait setting here of_pc causes operand)
    (expr_cause trait setting here of_pc causes (endorsed operand label))

-- into the index of an element, where it is of the array
abbrev pub own_index_cause : Trait → MethodSetting → StmtId → Option Cause → (VarId → Option Cause) → FieldId →
    FieldId → ExprTree → Option Cause
own_index_cause trait setting here of_pc causes array field index =
    if field.0 == array.0 then expr_cause trait setting here of_pc causes index else None

-- into the first index by which an expression reads the array
abbrev pub index_cause : Trait → MethodSetting → StmtId → Option Cause → (VarId → Option Cause) → FieldId → ExprTree →
    Option Cause
index_cause trait setting here of_pc causes array (number value) = None
index_cause trait setting here of_pc causes array (local x) = None
index_cause trait setting here of_pc causes array (scalar field) = None
index_cause trait setting here of_pc causes array (element field index) =
    or_first (index_cause trait setting here of_pc causes array index)
    (own_index_cause trait setting here of_pc causes array field index)
index_cause trait setting here of_pc causes array (inverted operand) =
    index_cause trait setting here of_pc causes array operand
index_cause trait setting here of_pc causes array (negated operand) =
    index_cause trait setting here of_pc causes array operand
index_cause trait setting here of_pc causes array (binary operator left right) =
    or_first (index_cause trait setting here of_pc causes array left)
    (index_cause trait setting here of_pc causes array right)
index_cause trait setting here of_pc causes array (declassified operand label) =
    index_cause trait setting here of_pc causes array operand
index_cause trait setting here of_pc causes array (endorsed operand label) =
    index_cause trait setting here of_pc causes array operand

-- what is answered of one expression of a statement
abbrev pub expr_answer : Question → Trait → MethodSetting → StmtId → Option Cause → (VarId → Option Cause) → ExprTree →
    Option Cause
expr_answer OfRun trait setting here of_pc causes value = None
expr_answer OfUse trait setting here of_pc causes value = use_cause trait setting here of_pc causes value
expr_answer (OfIndex array) trait setting here of_pc causes value =
    index_cause trait setting here of_pc causes array value

-- and of its program label
abbrev pub run_answer : Question → Option Cause → Option Cause
run_answer OfRun of_pc = of_pc
run_answer OfUse of_pc = None
run_answer (OfIndex array) of_pc = None

-- what is answered of a statement with these expressions of its own
abbrev pub answer : Question → Trait → MethodSetting → StmtId → Option Cause → (VarId → Option Cause) →
    List ExprTree → Option Cause
answer question trait setting here of_pc causes values =
    or_first (run_answer question of_pc) (first_some (expr_answer question trait setting here of_pc causes) values)

-- ---- blocks

-- what is answered of each statement of a block and of the blocks in it, in the order of the text
abbrev pub block_answers : Question → Trait → MethodSetting → Label → Option Cause → VariableLabels →
    (VarId → Option Cause) → BlockTree → List (Option Cause)
block_answers question trait setting pc of_pc labels causes done = []
block_answers question trait setting pc of_pc labels causes (set_local heading x value rest) =
    answer question trait setting heading.id of_pc causes (value ∷ [])
    ∷ block_answers question trait setting pc of_pc
    (labels_after_assignment labels x (join_of (expr_label setting pc labels value) pc))
    (causes_after_assignment labels causes x heading.id
    (or_else (expr_cause trait setting heading.id of_pc causes value) of_pc)) rest
block_answers question trait setting pc of_pc labels causes (set_field heading field value rest) =
    answer question trait setting heading.id of_pc causes (value ∷ [])
    ∷ block_answers question trait setting pc of_pc labels causes rest
block_answers question trait setting pc of_pc labels causes (set_element heading field index value rest) =
    answer question trait setting heading.id of_pc causes (index ∷ value ∷ [])
    ∷ block_answers question trait setting pc of_pc labels causes rest
block_answers question trait setting pc of_pc labels causes (branch heading guard first second rest) =
    let inside = guarded setting pc labels guard in
    let of_inside = guarded_cause trait setting heading.id of_pc causes guard in
    let between = labels_after setting inside labels first in
    let causes_between = causes_after trait setting inside of_inside labels causes first in
    answer question trait setting heading.id of_pc causes (guard ∷ [])
    ∷ block_answers question trait setting inside of_inside labels causes first
    ++ block_answers question trait setting inside of_inside between causes_between second
    ++ block_answers question trait setting pc of_pc (labels_after setting inside between second)
    (causes_after trait setting inside of_inside between causes_between second) rest
block_answers question trait setting pc of_pc labels causes (loop heading guard body rest) =
    let inside = guarded setting pc labels guard in
    let of_inside = guarded_cause trait setting heading.id of_pc causes guard in
    answer question trait setting heading.id of_inside causes (guard ∷ [])
    ∷ block_answers question trait setting inside of_inside labels causes body
    ++ block_answers question trait setting pc of_pc (labels_after setting inside labels body)
    (causes_after trait setting inside of_inside labels causes body) rest
block_answers question trait setting pc of_pc labels causes (call heading site method arguments into rest) =
    answer question trait setting heading.id of_pc causes arguments
    ∷ block_answers question trait setting pc of_pc labels causes rest
block_answers question trait setting pc of_pc labels causes (give_back heading value rest) =
    answer question trait setting heading.id of_pc causes (value ∷ [])
    ∷ block_answers question trait setting pc of_pc labels causes rest

-- ---- programs

-- What is answered of a method's head and of its statements. Of a head nothing is asked but its begin label.
abbrev pub methods_answers : Question → Trait → Declared → ProgramTree → ℕ → VariableLabels → (VarId → Option Cause) →
    List MethodTree → List (Option Cause)
methods_answers question trait principals program place labels causes [] = []
methods_answers question trait principals program place labels causes (method ∷ methods) =
    let setting = setting_of principals program method in
    let of_begin = begin_cause trait (record { 0 = place }) method.begin in
    of_begin ∷ block_answers question trait setting method.begin of_begin labels causes method.body
    ++ methods_answers question trait principals program (place + 1)
    (labels_after setting method.begin labels method.body)
    (causes_after trait setting method.begin of_begin labels causes method.body) methods

-- by the numbers of statements
abbrev pub program_answers : Question → Trait → Declared → ProgramTree → List (Option Cause)
program_answers question trait principals program =
    methods_answers question trait principals program 0 (declared_labels program)
    (declared_causes trait (declared_labels program)) program.methods

abbrev pub answer_at : Question → Declared → ProgramTree → StmtId → Trait → Option Cause
answer_at question principals program statement trait =
    unwrap_or (slice_get (program_answers question trait principals program) statement.0) None
