-- What each row of a reason claims, by itself: for which label a pair or a principal stands against the host, and which
-- statement has to do with that label. And what is claimed of a cause: that the label at its source has the trait, and
-- that what it came through last is there.
--
-- These are facts on the program and its labels. They say nothing of which row comes first, nor of how it is found.
use Rattle.std.specs.Prelude.{◌≡◌, ◌<◌, length, ◌++◌, ◌∷◌, [], ⊤, List, map, Any, Contains, IsTrue}
use Rattle.std.specs.Prelude.{Option, Some, None, IsSome, slice_get}
use Rattle.std.specs.List.{flat_map, list_any}
use Rattle.js_base.specs.declared.ids.FieldId.{FieldId}
use Rattle.js_base.specs.declared.ids.VarId.{VarId}
use Rattle.js_base.specs.declared.ids.MethodId.{MethodId}
use Rattle.js_base.specs.declared.ids.StmtId.{StmtId}
use Rattle.principals.specs.ActsFor.{Declared, ActsFor}
use Rattle.label_lattice.specs.declared.label.Label.{Label}
use Rattle.label_lattice.specs.Label.{Trusts}
use Rattle.jif_tree.specs.Trees.{ExprTree, number, local, scalar, element, inverted, negated, binary, declassified}
use Rattle.jif_tree.specs.Trees.{endorsed, BlockTree, done, set_local, set_field, set_element, branch, loop, call}
use Rattle.jif_tree.specs.Trees.{give_back, MethodTree, ProgramTree}
use Rattle.jif_tree.specs.LabelRules.{MethodSetting, setting_of, part_labels, expr_label, field_label, declared_labels}
use Rattle.jif_tree.specs.LabelRules.{method_at, begin_label, params_of, result_of}
use Rattle.jif_tree.specs.WrittenLabels.{written_in}
use Rattle.label_reasons.specs.declared.reason.Trait.{Trait}
use Rattle.label_reasons.specs.declared.reason.Cause.{Cause}
use Rattle.label_reasons.specs.declared.reason.Source.{Source}
use Rattle.label_reasons.specs.declared.reason.Source.TheVariants.{OfField, OfVariable, OfBegin, Written}
use Rattle.label_reasons.specs.declared.reason.Via.{Via}
use Rattle.label_reasons.specs.declared.reason.Via.TheVariants.{Itself, ByLocal, ByGuard}
use Rattle.label_reasons.specs.Listed.{IsListable}
use Rattle.label_reasons.specs.Traits.{has, TraitIsLacking}
use Rattle.need_labels.specs.Labelled.{Labelled, pc_of, all_labels}
use Rattle.need_labels.specs.Needs.{label_of, releases}
use Rattle.place_reasons.specs.declared.reason.Needed.{Needed}
use Rattle.place_reasons.specs.declared.reason.Needed.TheVariants as needed
use Rattle.place_reasons.specs.declared.reason.PlaceReason.{PlaceReason}
use Rattle.place_reasons.specs.declared.reason.PlaceReason.TheVariants as row
use Rattle.place_reasons.specs.Reasons.{id_of, exprs_of}

-- ---- statements

-- the statements of a block and of the blocks in it, each as a block of its own, in the order of the text
abbrev pub statements_in : BlockTree → List BlockTree
statements_in done = []
statements_in (set_local heading x value rest) = set_local heading x value done ∷ statements_in rest
statements_in (set_field heading field value rest) = set_field heading field value done ∷ statements_in rest
statements_in (set_element heading field index value rest) =
    set_element heading field index value done ∷ statements_in rest
statements_in (branch heading guard first second rest) =
    branch heading guard first second done ∷ statements_in first ++ statements_in second ++ statements_in rest
statements_in (loop heading guard body rest) =
    loop heading guard body done ∷ statements_in body ++ statements_in rest
statements_in (call heading place method arguments into rest) =
    call heading place method arguments into done ∷ statements_in rest
statements_in (give_back heading value rest) = give_back heading value done ∷ statements_in rest

-- one of these statements has this number, and is so
abbrev pub IsOneOf : StmtId → (BlockTree → Type 0) → List BlockTree → Type 0
IsOneOf here is statements = Any (λ one. (id_of one ≡ here) × is one) statements

-- the statement of this number is so, in some method of the program
abbrev pub IsInSomeMethod : ProgramTree → StmtId → (MethodTree → BlockTree → Type 0) → Type 0
IsInSomeMethod program here is = Any (λ method. IsOneOf here (is method) (statements_in method.body)) program.methods

-- ---- what statements read

-- the fields and arrays that an expression reads
abbrev pub fields_in : ExprTree → List FieldId
fields_in (number value) = []
fields_in (local x) = []
fields_in (scalar field) = field ∷ []
fields_in (element field index) = fields_in index ++ field ∷ []
fields_in (inverted operand) = fields_in operand
fields_in (negated operand) = fields_in operand
fields_in (binary operator left right) = fields_in left ++ fields_in right
fields_in (declassified operand label) = fields_in operand
fields_in (endorsed operand label) = fields_in operand

-- the elements that it reads: an array, and which of its elements
abbrev pub elements_in : ExprTree → List (FieldId × ExprTree)
elements_in (number value) = []
elements_in (local x) = []
elements_in (scalar field) = []
elements_in (element field index) = elements_in index ++ (field, index) ∷ []
elements_in (inverted operand) = elements_in operand
elements_in (negated operand) = elements_in operand
elements_in (binary operator left right) = elements_in left ++ elements_in right
elements_in (declassified operand label) = elements_in operand
elements_in (endorsed operand label) = elements_in operand

-- a statement's own expressions read the field
abbrev pub ReadsField : FieldId → BlockTree → Type 0
ReadsField field one = Any (λ value. Any (λ read. read.0 ≡ field.0) (fields_in value)) (exprs_of one)

-- they read an element of the array, and which one that is the host may not see
abbrev pub ReadsHiddenElement : Labelled → Label → Trait → FieldId → MethodSetting → BlockTree → Type 0
ReadsHiddenElement labelled host pair field setting one =
    Any (λ value. Any (λ read. (read.0.0 ≡ field.0)
    × TraitIsLacking pair (expr_label setting (pc_of labelled (id_of one)) (all_labels labelled) read.1) host)
    (elements_in value)) (exprs_of one)

-- ---- what statements change, release and call

abbrev pub variables_of : Option VarId → List VarId
variables_of None = []
variables_of (Some x) = x ∷ []

-- what a statement changes by itself, for which its host is to be trusted, in a method with this result
abbrev pub changes_of : ProgramTree → Option VarId → BlockTree → List Needed
changes_of program result done = []
changes_of program result (set_local heading x value rest) = needed.Variable x ∷ []
changes_of program result (set_field heading field value rest) = needed.Field field ∷ []
changes_of program result (set_element heading field index value rest) = needed.Field field ∷ []
changes_of program result (branch heading guard first second rest) = []
changes_of program result (loop heading guard body rest) = []
changes_of program result (call heading place method arguments into rest) =
    needed.Begin method
    ∷ map (λ x. needed.Parameter x method) (params_of (method_at program method))
    ++ map (λ x. needed.Variable x) (variables_of into)
changes_of program result (give_back heading value rest) = map (λ x. needed.Result x) (variables_of result)

-- the label of what is changed
abbrev pub needed_label : Labelled → MethodTree → Needed → Label
needed_label labelled method (needed.Variable x) = label_of labelled x
needed_label labelled method (needed.Field field) = field_label labelled.program field
needed_label labelled method (needed.Begin called) = begin_label (method_at labelled.program called)
needed_label labelled method (needed.Parameter x called) = label_of labelled x
needed_label labelled method (needed.Result x) = label_of labelled x
needed_label labelled method needed.Head = method.begin

-- one of its own expressions releases a value
abbrev pub ReleasesValue : BlockTree → Type 0
ReleasesValue one = IsTrue (list_any releases (exprs_of one))

-- the method that it calls
abbrev pub called_by : BlockTree → Option MethodId
called_by done = None
called_by (set_local heading x value rest) = None
called_by (set_field heading field value rest) = None
called_by (set_element heading field index value rest) = None
called_by (branch heading guard first second rest) = None
called_by (loop heading guard body rest) = None
called_by (call heading place method arguments into rest) = Some method
called_by (give_back heading value rest) = None

-- and the variable that keeps the result
abbrev pub kept_by : BlockTree → Option VarId
kept_by done = None
kept_by (set_local heading x value rest) = None
kept_by (set_field heading field value rest) = None
kept_by (set_element heading field index value rest) = None
kept_by (branch heading guard first second rest) = None
kept_by (loop heading guard body rest) = None
kept_by (call heading place method arguments into rest) = into
kept_by (give_back heading value rest) = None

-- ---- fields

-- what a reason for a field claims
abbrev pub RefutesField : Declared → Labelled → Label → FieldId → PlaceReason → Type 0
RefutesField principals labelled host field (row.Own pair) = TraitIsLacking pair (field_label labelled.program field)
    host
RefutesField principals labelled host field (row.Read pair statement cause) =
    TraitIsLacking pair (pc_of labelled statement) host
    × IsInSomeMethod labelled.program statement (λ method one. ReadsField field one)
RefutesField principals labelled host field (row.Index pair statement cause) =
    IsInSomeMethod labelled.program statement (λ method one.
    ReadsHiddenElement labelled host pair field (setting_of principals labelled.program method) one)
RefutesField principals labelled host field (row.Untrusted principal) =
    Trusts (field_label labelled.program field) principal × (¬ Trusts host principal)
RefutesField principals labelled host field other = ⊥

-- ---- heads

-- what a reason for the head of a method claims
abbrev pub RefutesHead : Label → MethodTree → PlaceReason → Type 0
RefutesHead host method (row.Begins pair) = TraitIsLacking pair method.begin host
RefutesHead host method (row.Needs principal what statement) =
    (what ≡ needed.Head) × (statement ≡ method.head) × Trusts method.begin principal × (¬ Trusts host principal)
RefutesHead host method other = ⊥

-- ---- statements

-- what a reason for the one statement of a block of a method claims
abbrev pub RefutesStatement : Declared → Labelled → Label → MethodTree → BlockTree → PlaceReason → Type 0
RefutesStatement principals labelled host method block (row.Runs pair cause) =
    TraitIsLacking pair (pc_of labelled (id_of block)) host
RefutesStatement principals labelled host method block (row.Uses pair cause) =
    Any (λ label. TraitIsLacking pair label host)
    (flat_map (part_labels (setting_of principals labelled.program method) (pc_of labelled (id_of block))
    (all_labels labelled)) (exprs_of block))
RefutesStatement principals labelled host method block (row.CallBegins pair called) =
    (called_by block ≡ Some called) × TraitIsLacking pair (begin_label (method_at labelled.program called)) host
RefutesStatement principals labelled host method block (row.CallGives pair called) =
    (called_by block ≡ Some called) × IsSome (kept_by block)
    × Any (λ result. TraitIsLacking pair (label_of labelled result) host)
    (variables_of (result_of (method_at labelled.program called)))
RefutesStatement principals labelled host method block (row.Needs principal what statement) =
    Trusts (needed_label labelled method what) principal × (¬ Trusts host principal)
    × IsOneOf statement (λ one. Contains (changes_of labelled.program method.result one) what) (statements_in block)
RefutesStatement principals labelled host method block (row.Releases member principal statement) =
    ActsFor principals member.0 principal × (¬ Trusts host principal) × Contains method.authority member
    × IsOneOf statement ReleasesValue (statements_in block)
RefutesStatement principals labelled host method block other = ⊥

-- ---- who is named

-- The principals in a reason are declared. The reader of a pair may be the outsider.
abbrev pub NamesDeclared : Declared → PlaceReason → Type 0
NamesDeclared principals (row.Own pair) = IsListable principals pair
NamesDeclared principals (row.Read pair statement cause) = IsListable principals pair
NamesDeclared principals (row.Index pair statement cause) = IsListable principals pair
NamesDeclared principals (row.Untrusted principal) = principal < length principals.names
NamesDeclared principals (row.Begins pair) = IsListable principals pair
NamesDeclared principals (row.Runs pair cause) = IsListable principals pair
NamesDeclared principals (row.Uses pair cause) = IsListable principals pair
NamesDeclared principals (row.CallBegins pair called) = IsListable principals pair
NamesDeclared principals (row.CallGives pair called) = IsListable principals pair
NamesDeclared principals (row.Needs principal what statement) = principal < length principals.names
NamesDeclared principals (row.Releases member principal statement) =
    (member.0 < length principals.names) × (principal < length principals.names)

-- ---- causes

-- The label of this source has the trait: that of a field, of a variable, or of how a method begins, or one that is
-- written in an expression of the statement.
abbrev pub IsTraitSource : ProgramTree → Trait → Source → Type 0
IsTraitSource program trait (OfField field) = IsTrue (has trait (field_label program field))
IsTraitSource program trait (OfVariable x) =
    (label : Label) × (slice_get (declared_labels program) x.0 ≡ Some (Some label)) × IsTrue (has trait label)
IsTraitSource program trait (OfBegin method) = IsTrue (has trait (begin_label (method_at program method)))
IsTraitSource program trait (Written here) = IsInSomeMethod program here
    (λ method one. Any (λ label. IsTrue (has trait label)) (flat_map written_in (exprs_of one)))

-- a statement sets the local
abbrev pub SetsLocal : VarId → BlockTree → Type 0
SetsLocal x done = ⊥
SetsLocal x (set_local heading y value rest) = y ≡ x
SetsLocal x (set_field heading field value rest) = ⊥
SetsLocal x (set_element heading field index value rest) = ⊥
SetsLocal x (branch heading guard first second rest) = ⊥
SetsLocal x (loop heading guard body rest) = ⊥
SetsLocal x (call heading place method arguments into rest) = ⊥
SetsLocal x (give_back heading value rest) = ⊥

-- it has a guard
abbrev pub HasGuard : BlockTree → Type 0
HasGuard done = ⊥
HasGuard (set_local heading x value rest) = ⊥
HasGuard (set_field heading field value rest) = ⊥
HasGuard (set_element heading field index value rest) = ⊥
HasGuard (branch heading guard first second rest) = ⊤
HasGuard (loop heading guard body rest) = ⊤
HasGuard (call heading place method arguments into rest) = ⊥
HasGuard (give_back heading value rest) = ⊥

-- what it came through last is there
abbrev pub IsVia : ProgramTree → Via → Type 0
IsVia program Itself = ⊤
IsVia program (ByLocal x here) = IsInSomeMethod program here (λ method one. SetsLocal x one)
IsVia program (ByGuard here) = IsInSomeMethod program here (λ method one. HasGuard one)

-- so it is of a cause, where there is one
abbrev pub IsCaused : ProgramTree → Trait → Option Cause → Type 0
IsCaused program trait None = ⊤
IsCaused program trait (Some cause) = IsTraitSource program trait cause.source × IsVia program cause.via

-- so it is of the cause that a reason tells
abbrev pub IsCauseTrue : ProgramTree → PlaceReason → Type 0
IsCauseTrue program (row.Read pair statement cause) = IsCaused program pair cause
IsCauseTrue program (row.Index pair statement cause) = IsCaused program pair cause
IsCauseTrue program (row.Runs pair cause) = IsCaused program pair cause
IsCauseTrue program (row.Uses pair cause) = IsCaused program pair cause
IsCauseTrue program other = ⊤
