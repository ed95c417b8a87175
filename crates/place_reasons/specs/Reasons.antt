-- Why a host may not hold a field or a statement: the first of some rows, by the first pair or principal.
--
-- A host of some label may not see what an owner keeps from a reader where the label does not keep it so, and whoever
-- trusts what it changes trusts the host. Each row is one of the parts that a field or a statement tells or needs, in
-- the order in which whoever reads the program meets them. The pairs of a part are listed as those of a flow that is
-- refused: what nobody may release.
use Rattle.std.specs.Prelude.{ℕ, ◌==◌, ◌&&◌, not, if◌then◌else◌, List, [], ◌∷◌, Option, Some, None}
use Rattle.std.specs.Prelude.{slice_get}
use Rattle.std.specs.List.{list_any}
use Rattle.std.specs.Option.{option_map}
use Rattle.js_base.specs.declared.ids.FieldId.{FieldId}
use Rattle.js_base.specs.declared.ids.VarId.{VarId}
use Rattle.js_base.specs.declared.ids.MethodId.{MethodId}
use Rattle.js_base.specs.declared.ids.StmtId.{StmtId}
use Rattle.js_base.specs.declared.ids.PrincipalId.{PrincipalId}
use Rattle.principals.specs.ActsFor.{Declared}
use Rattle.label_lattice.specs.declared.label.Label.{Label}
use Rattle.label_lattice.specs.Printed.{is_trusted_by}
use Rattle.jif_tree.specs.Trees.{ExprTree, number, local, scalar, element, inverted, negated, binary, declassified}
use Rattle.jif_tree.specs.Trees.{endorsed, BlockTree, done, set_local, set_field, set_element, branch, loop, call}
use Rattle.jif_tree.specs.Trees.{give_back, MethodTree, ProgramTree}
use Rattle.jif_tree.specs.LabelRules.{MethodSetting, setting_of, expr_label, field_label, may_release}
use Rattle.jif_tree.specs.LabelRules.{method_at, begin_label, params_of, result_of}
use Rattle.label_reasons.specs.declared.reason.Trait.{Trait}
use Rattle.label_reasons.specs.Listed.{acts_for, listed, declared_numbers}
use Rattle.label_reasons.specs.Reasons.{fails_in}
use Rattle.need_labels.specs.Labelled.{Labelled, pc_of, all_labels}
use Rattle.need_labels.specs.Needs.{label_of, releases}
use Rattle.place_reasons.specs.declared.question.Question.TheVariants.{OfRun, OfUse, OfIndex}
use Rattle.place_reasons.specs.declared.reason.Needed.{Needed}
use Rattle.place_reasons.specs.declared.reason.Needed.TheVariants as needed
use Rattle.place_reasons.specs.declared.reason.PlaceReason.{PlaceReason}
use Rattle.place_reasons.specs.declared.reason.PlaceReason.TheVariants as row
use Rattle.place_reasons.specs.declared.backed.Backed.{Backed}
use Rattle.place_reasons.specs.declared.backed.Backed.TheVariants as backed
use Rattle.place_reasons.specs.declared.told.Told.{Told}
use Rattle.place_reasons.specs.declared.told.Told.TheVariants as told
use Rattle.place_reasons.specs.Firsts.{or_first, first_some}
use Rattle.place_reasons.specs.Questions.{answer_at}

-- ---- pairs and principals

-- the first pair that is listed of those that the first label keeps and the second does not
abbrev pub first_pair : Declared → Label → Label → Option Trait
first_pair principals from to = slice_get (listed principals (fails_in principals (may_release [] from to))) 0

-- the principal, where it trusts the second label and not the first
abbrev pub untrusting : Label → Label → ℕ → Option ℕ
untrusting host label principal =
    if is_trusted_by label principal && not (is_trusted_by host principal) then Some principal else None

abbrev pub first_untrusting : Declared → Label → Label → Option ℕ
first_untrusting principals host label = first_some (untrusting host label) (declared_numbers principals)

-- ---- the parts of a statement

-- the number of the first statement of a block
abbrev pub id_of : BlockTree → StmtId
id_of done = record { 0 = 0 }
id_of (set_local heading x value rest) = heading.id
id_of (set_field heading field value rest) = heading.id
id_of (set_element heading field index value rest) = heading.id
id_of (branch heading guard first second rest) = heading.id
id_of (loop heading guard body rest) = heading.id
id_of (call heading place method arguments into rest) = heading.id
id_of (give_back heading value rest) = heading.id

-- its own expressions
abbrev pub exprs_of : BlockTree → List ExprTree
exprs_of done = []
exprs_of (set_local heading x value rest) = value ∷ []
exprs_of (set_field heading field value rest) = value ∷ []
exprs_of (set_element heading field index value rest) = index ∷ value ∷ []
exprs_of (branch heading guard first second rest) = guard ∷ []
exprs_of (loop heading guard body rest) = guard ∷ []
exprs_of (call heading place method arguments into rest) = arguments
exprs_of (give_back heading value rest) = value ∷ []

-- ---- what reads tell

-- where what is asked about stands: a host of this label is to hold something of the program, in a method
pub record Site : Type 0 where
  pub principals : Declared
  pub labelled : Labelled
  pub host : Label
  pub setting : MethodSetting

abbrev pub site_of : Declared → Labelled → Label → MethodTree → Site
site_of principals labelled host method = record {
  principals = principals;
  labelled = labelled;
  host = host;
  setting = setting_of principals labelled.program method;
}

abbrev pub pc_at : Site → StmtId → Label
pc_at site here = pc_of site.labelled here

abbrev pub label_at : Site → StmtId → ExprTree → Label
label_at site here value = expr_label site.setting (pc_at site here) (all_labels site.labelled) value

abbrev pub pair_at : Site → Label → Option Trait
pair_at site label = first_pair site.principals label site.host

-- what one read of the field by a statement tells: that it reads it
abbrev pub run_told : Site → FieldId → StmtId → FieldId → Option Told
run_told site wanted here field =
    if field.0 == wanted.0 then option_map (λ pair. told.Read pair here) (pair_at site (pc_at site here)) else None

-- and which element
abbrev pub index_told : Site → FieldId → StmtId → FieldId → ExprTree → Option Told
index_told site wanted here field index =
    if field.0 == wanted.0 then option_map (λ pair. told.Index pair here) (pair_at site (label_at site here index))
    else None

-- The first that the reads of an expression tell of the field and the host may not see, inner before outer and from
-- the left.
abbrev pub told_in : Site → FieldId → StmtId → ExprTree → Option Told
told_in site wanted here (number value) = None
told_in site wanted here (local x) = None
told_in site wanted here (scalar field) = run_told site wanted here field
told_in site wanted here (element field index) =
    or_first (told_in site wanted here index)
    (or_first (run_told site wanted here field) (index_told site wanted here field index))
told_in site wanted here (inverted operand) = told_in site wanted here operand
told_in site wanted here (negated operand) = told_in site wanted here operand
told_in site wanted here (binary operator left right) =
    or_first (told_in site wanted here left) (told_in site wanted here right)
told_in site wanted here (declassified operand label) = told_in site wanted here operand
told_in site wanted here (endorsed operand label) = told_in site wanted here operand

abbrev pub told_by : Site → FieldId → StmtId → List ExprTree → Option Told
told_by site wanted here values = first_some (told_in site wanted here) values

-- what the own reads of the first statement of a block tell
abbrev pub own_told : Site → FieldId → BlockTree → Option Told
own_told site wanted block = told_by site wanted (id_of block) (exprs_of block)

-- of the statements of a block and of the blocks in it, in the order of the text
abbrev pub block_told : Site → FieldId → BlockTree → Option Told
block_told site wanted done = None
block_told site wanted (set_local heading x value rest) =
    or_first (own_told site wanted (set_local heading x value rest)) (block_told site wanted rest)
block_told site wanted (set_field heading field value rest) =
    or_first (own_told site wanted (set_field heading field value rest)) (block_told site wanted rest)
block_told site wanted (set_element heading field index value rest) =
    or_first (own_told site wanted (set_element heading field index value rest)) (block_told site wanted rest)
block_told site wanted (branch heading guard first second rest) =
    or_first (own_told site wanted (branch heading guard first second rest))
    (or_first (block_told site wanted first)
    (or_first (block_told site wanted second) (block_told site wanted rest)))
block_told site wanted (loop heading guard body rest) =
    or_first (own_told site wanted (loop heading guard body rest))
    (or_first (block_told site wanted body) (block_told site wanted rest))
block_told site wanted (call heading place method arguments into rest) =
    or_first (own_told site wanted (call heading place method arguments into rest)) (block_told site wanted rest)
block_told site wanted (give_back heading value rest) =
    or_first (own_told site wanted (give_back heading value rest)) (block_told site wanted rest)

abbrev pub method_told : Declared → Labelled → Label → FieldId → MethodTree → Option Told
method_told principals labelled host wanted method =
    block_told (site_of principals labelled host method) wanted method.body

-- ---- fields

-- with what brings the pair in
abbrev pub told_reason : Declared → ProgramTree → FieldId → Told → PlaceReason
told_reason principals program field (told.Read pair statement) =
    row.Read pair statement (answer_at OfRun principals program statement pair)
told_reason principals program field (told.Index pair statement) =
    row.Index pair statement (answer_at (OfIndex field) principals program statement pair)

abbrev pub own_row : Declared → Labelled → Label → FieldId → Option PlaceReason
own_row principals labelled host field =
    option_map (λ pair. row.Own pair) (first_pair principals (field_label labelled.program field) host)

abbrev pub told_row : Declared → Labelled → Label → FieldId → Option PlaceReason
told_row principals labelled host field =
    option_map (told_reason principals labelled.program field)
    (first_some (method_told principals labelled host field) labelled.program.methods)

abbrev pub trust_row : Declared → Labelled → Label → FieldId → Option PlaceReason
trust_row principals labelled host field =
    option_map (λ principal. row.Untrusted principal)
    (first_untrusting principals host (field_label labelled.program field))

-- Why a host of this label may not hold the field: what it keeps, what its reads tell, and who trusts it.
abbrev pub field_reason : Declared → Labelled → Label → FieldId → Option PlaceReason
field_reason principals labelled host field =
    or_first (own_row principals labelled host field)
    (or_first (told_row principals labelled host field) (trust_row principals labelled host field))

-- ---- what a statement tells

-- the first pair of an expression
unfoldable pub own_use : Site → StmtId → ExprTree → Option Trait
own_use site here value = pair_at site (label_at site here value)

-- The first pair of the first of the expressions inside an expression that the host may not see, inner before outer and
-- from the left.
abbrev pub used_inside : Site → StmtId → ExprTree → Option Trait
used_inside site here (number value) = None
used_inside site here (local x) = None
used_inside site here (scalar field) = None
used_inside site here (element field index) = or_first (used_inside site here index) (own_use site here index)
used_inside site here (inverted operand) = or_first (used_inside site here operand) (own_use site here operand)
used_inside site here (negated operand) = or_first (used_inside site here operand) (own_use site here operand)
used_inside site here (binary operator left right) =
    or_first (or_first (used_inside site here left) (own_use site here left))
    (or_first (used_inside site here right) (own_use site here right))
used_inside site here (declassified operand label) =
    or_first (used_inside site here operand) (own_use site here operand)
used_inside site here (endorsed operand label) =
    or_first (used_inside site here operand) (own_use site here operand)

-- and of the expression itself, last
abbrev pub used_in : Site → StmtId → ExprTree → Option Trait
used_in site here value = or_first (used_inside site here value) (own_use site here value)

abbrev pub used_by : Site → StmtId → List ExprTree → Option Trait
used_by site here values = first_some (used_in site here) values

-- what a call gives back, where it is kept
abbrev pub kept_row : Site → MethodId → Option VarId → Option VarId → Option PlaceReason
kept_row site method (Some into) (Some result) =
    option_map (λ pair. row.CallGives pair method) (pair_at site (label_of site.labelled result))
kept_row site method into result = None

-- what a call tells beside its arguments
abbrev pub told_by_call : Site → MethodId → Option VarId → Option PlaceReason
told_by_call site method into =
    let called = method_at site.labelled.program method in
    or_first (option_map (λ pair. row.CallBegins pair method) (pair_at site (begin_label called)))
    (kept_row site method into (result_of called))

abbrev pub call_row : Site → BlockTree → Option PlaceReason
call_row site done = None
call_row site (set_local heading x value rest) = None
call_row site (set_field heading field value rest) = None
call_row site (set_element heading field index value rest) = None
call_row site (branch heading guard first second rest) = None
call_row site (loop heading guard body rest) = None
call_row site (call heading place method arguments into rest) = told_by_call site method into
call_row site (give_back heading value rest) = None

-- ---- who has to trust the host

-- for what it is to be trusted, where the principal trusts the label
abbrev pub change_backed : ℕ → StmtId → Label → Needed → Option Backed
change_backed principal here label what =
    if is_trusted_by label principal then Some (backed.Change what here) else None

abbrev pub variable_backed : Site → ℕ → StmtId → (VarId → Needed) → VarId → Option Backed
variable_backed site principal here what x = change_backed principal here (label_of site.labelled x) (what x)

abbrev pub kept_backed : Site → ℕ → StmtId → (VarId → Needed) → Option VarId → Option Backed
kept_backed site principal here what None = None
kept_backed site principal here what (Some x) = variable_backed site principal here what x

-- by a member that acts for the principal
abbrev pub member_backed : Declared → ℕ → StmtId → PrincipalId → Option Backed
member_backed principals principal here member =
    if acts_for principals member.0 principal then Some (backed.Release member here) else None

-- where one of these expressions releases a value
abbrev pub release_backed : Site → ℕ → StmtId → List ExprTree → Option Backed
release_backed site principal here values =
    if list_any releases values then first_some (member_backed site.principals principal here) site.setting.authority
    else None

-- by the begin label, the parameters, and what keeps the result
abbrev pub call_backed : Site → ℕ → StmtId → MethodId → Option VarId → Option Backed
call_backed site principal here method into =
    let called = method_at site.labelled.program method in
    or_first (change_backed principal here (begin_label called) (needed.Begin method))
    (or_first
    (first_some (variable_backed site principal here (λ x. needed.Parameter x method)) (params_of called))
    (kept_backed site principal here (λ x. needed.Variable x) into))

-- what the first statement of a block changes
abbrev pub changed_by : Site → ℕ → BlockTree → Option Backed
changed_by site principal done = None
changed_by site principal (set_local heading x value rest) =
    variable_backed site principal heading.id (λ y. needed.Variable y) x
changed_by site principal (set_field heading field value rest) =
    change_backed principal heading.id (field_label site.labelled.program field) (needed.Field field)
changed_by site principal (set_element heading field index value rest) =
    change_backed principal heading.id (field_label site.labelled.program field) (needed.Field field)
changed_by site principal (branch heading guard first second rest) = None
changed_by site principal (loop heading guard body rest) = None
changed_by site principal (call heading place method arguments into rest) =
    call_backed site principal heading.id method into
changed_by site principal (give_back heading value rest) =
    kept_backed site principal heading.id (λ x. needed.Result x) site.setting.result

-- and what it releases
abbrev pub own_backed : Site → ℕ → BlockTree → Option Backed
own_backed site principal block =
    or_first (changed_by site principal block) (release_backed site principal (id_of block) (exprs_of block))

-- The first for which the host of the statements of a block is to be trusted by the principal: what each changes, what
-- it releases, and then what stands in it.
abbrev pub block_backed : Site → ℕ → BlockTree → Option Backed
block_backed site principal done = None
block_backed site principal (set_local heading x value rest) =
    or_first (own_backed site principal (set_local heading x value rest)) (block_backed site principal rest)
block_backed site principal (set_field heading field value rest) =
    or_first (own_backed site principal (set_field heading field value rest)) (block_backed site principal rest)
block_backed site principal (set_element heading field index value rest) =
    or_first (own_backed site principal (set_element heading field index value rest))
    (block_backed site principal rest)
block_backed site principal (branch heading guard first second rest) =
    or_first (own_backed site principal (branch heading guard first second rest))
    (or_first (block_backed site principal first)
    (or_first (block_backed site principal second) (block_backed site principal rest)))
block_backed site principal (loop heading guard body rest) =
    or_first (own_backed site principal (loop heading guard body rest))
    (or_first (block_backed site principal body) (block_backed site principal rest))
block_backed site principal (call heading place method arguments into rest) =
    or_first (own_backed site principal (call heading place method arguments into rest))
    (block_backed site principal rest)
block_backed site principal (give_back heading value rest) =
    or_first (own_backed site principal (give_back heading value rest)) (block_backed site principal rest)

abbrev pub backed_reason : ℕ → Backed → PlaceReason
backed_reason principal (backed.Change what here) = row.Needs principal what here
backed_reason principal (backed.Release member here) = row.Releases member principal here

-- the principal, where it does not trust the host, and has to
abbrev pub need_of : Site → BlockTree → ℕ → Option PlaceReason
need_of site block principal =
    if is_trusted_by site.host principal then None
    else option_map (backed_reason principal) (block_backed site principal block)

-- ---- statements

abbrev pub run_row : Site → BlockTree → Option PlaceReason
run_row site block = option_map
    (λ pair. row.Runs pair (answer_at OfRun site.principals site.labelled.program (id_of block) pair))
    (pair_at site (pc_at site (id_of block)))

abbrev pub use_row : Site → BlockTree → Option PlaceReason
use_row site block = option_map
    (λ pair. row.Uses pair (answer_at OfUse site.principals site.labelled.program (id_of block) pair))
    (used_by site (id_of block) (exprs_of block))

abbrev pub need_row : Site → BlockTree → Option PlaceReason
need_row site block = first_some (need_of site block) (declared_numbers site.principals)

-- what the labels of a statement keep
abbrev pub kept_rows : Site → BlockTree → Option PlaceReason
kept_rows site block = or_first (run_row site block) (or_first (use_row site block) (call_row site block))

-- Why a host of this label may not hold the one statement of a block: what its execution tells, and who has to trust
-- its host, also for what stands in it.
abbrev pub statement_reason : Declared → Labelled → Label → MethodTree → BlockTree → Option PlaceReason
statement_reason principals labelled host method block =
    let site = site_of principals labelled host method in
    or_first (run_row site block)
    (or_first (use_row site block) (or_first (call_row site block) (need_row site block)))

-- Why it may not hold the head of a method, which stands for the begin label.
abbrev pub head_reason : Declared → Label → MethodTree → Option PlaceReason
head_reason principals host method =
    or_first (option_map (λ pair. row.Begins pair) (first_pair principals method.begin host))
    (option_map (λ principal. row.Needs principal needed.Head method.head)
    (first_untrusting principals host method.begin))
