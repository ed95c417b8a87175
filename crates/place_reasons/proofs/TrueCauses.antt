-- What is found to bring a pair in has it: the label at its source has the pair.
use Rattle.std.proofs.Common.{◌≡◌, inl, inr, ℕ, ◌+◌, ◌<◌, suc, length, get_or, Bool, true, false, List, [], ◌∷◌, ◌++◌}
use Rattle.std.proofs.Common.{refl, sym}
use Rattle.std.proofs.Common.{ap, ◌∙◌, subst, arith, flat_map}
use Rattle.std.specs.Option.{option_map}
use Rattle.std.specs.Prelude.{◌==◌, All, Any, IsTrue, if◌then◌else◌, Option, Some, None, slice_get, unwrap_or}
use Rattle.std.proofs.lemmas.Bool.{cases_Bool}
use Rattle.std.proofs.lemmas.List.Concat.{flat_map-cons}
use Rattle.std.proofs.lemmas.List.Elements.{All-nil, All-cons, All-append}
use Rattle.std.proofs.lemmas.Option.{none-some, slice_get_cases, slice_get_within, get_or_from_slice_get}
use Rattle.js_base.specs.declared.ids.FieldId.{FieldId}
use Rattle.js_base.specs.declared.ids.MethodId.{MethodId}
use Rattle.js_base.specs.declared.ids.StmtId.{StmtId}
use Rattle.js_base.specs.declared.ids.VarId.{VarId}
use Rattle.principals.specs.ActsFor.{Declared}
use Rattle.label_lattice.specs.declared.label.Label.{Label}
use Rattle.label_lattice.specs.Lattice.{join_of}
use Rattle.jif_tree.specs.Trees.{ExprTree, number, local, scalar, element, inverted, negated, binary, declassified}
use Rattle.jif_tree.specs.Trees.{endorsed, BlockTree, done, set_local, set_field, set_element, branch, loop, call}
use Rattle.jif_tree.specs.Trees.{give_back, MethodTree, ProgramTree}
use Rattle.jif_tree.specs.LabelRules.{MethodSetting, VariableLabels, expr_label, field_label, guarded, labels_after}
use Rattle.jif_tree.specs.LabelRules.{labels_after_assignment, setting_of, declared_labels, method_at, begin_label}
use Rattle.jif_tree.specs.LabelRules.{result_of}
use Rattle.jif_tree.specs.WrittenLabels.{written_in}
use Rattle.label_reasons.specs.declared.reason.Trait.{Trait}
use Rattle.label_reasons.specs.declared.reason.Trait.TheVariants.{Keeps, Distrusts}
use Rattle.label_reasons.specs.declared.reason.Cause.{Cause}
use Rattle.label_reasons.specs.declared.reason.Source.{Source}
use Rattle.label_reasons.specs.declared.reason.Source.TheVariants.{OfField, OfVariable, OfBegin, Written}
use Rattle.label_reasons.specs.declared.reason.Via.{Via}
use Rattle.label_reasons.specs.declared.reason.Via.TheVariants.{ByLocal, ByGuard}
use Rattle.label_reasons.specs.Traits.{has}
use Rattle.label_reasons.specs.Causes.{or_else, cause_where, released_cause, endorsed_cause, expr_cause, begin_cause}
use Rattle.label_reasons.specs.Causes.{label_cause, declared_causes, through, guarded_cause, with_cause, causes_after}
use Rattle.label_reasons.specs.Causes.{causes_after_assignment}
use Rattle.label_reasons.proofs.TraitTests.{AreTrusted}
use Rattle.need_labels.specs.Labelled.{Labelled}
use Rattle.need_labels.specs.Needs.{label_of}
use Rattle.need_labels.proofs.Somewhere.{any_here, any_later, any_left, any_right}
use Rattle.place_reasons.specs.declared.question.Question.{Question}
use Rattle.place_reasons.specs.declared.question.Question.TheVariants.{OfRun, OfUse, OfIndex}
use Rattle.place_reasons.specs.declared.backed.Backed.{Backed}
use Rattle.place_reasons.specs.declared.backed.Backed.TheVariants as backed
use Rattle.place_reasons.specs.declared.told.Told.{Told}
use Rattle.place_reasons.specs.declared.told.Told.TheVariants.{Read, Index}
use Rattle.place_reasons.specs.declared.reason.PlaceReason.{PlaceReason}
use Rattle.place_reasons.specs.declared.reason.PlaceReason.TheVariants as row
use Rattle.place_reasons.specs.Firsts.{or_first, first_some}
use Rattle.place_reasons.specs.Questions.{use_cause, own_index_cause, index_cause, expr_answer, run_answer, answer}
use Rattle.place_reasons.specs.Questions.{block_answers, methods_answers, program_answers, answer_at}
use Rattle.place_reasons.specs.Reasons.{Site, site_of, id_of, exprs_of, first_pair, first_untrusting, pc_at, pair_at}
use Rattle.place_reasons.specs.Reasons.{used_by, kept_row, call_row, run_row, use_row, need_row, backed_reason}
use Rattle.place_reasons.specs.Reasons.{statement_reason, method_told, told_reason, own_row, told_row, trust_row}
use Rattle.place_reasons.specs.Reasons.{field_reason}
use Rattle.place_reasons.specs.Refuted.{statements_in, IsOneOf, IsTraitSource, SetsLocal, HasGuard, IsVia}
use Rattle.place_reasons.specs.Refuted.{IsCaused, IsCauseTrue}
use Rattle.place_reasons.proofs.PairLaws.{or_so}
use Rattle.place_reasons.proofs.StatementLaws.{need_so, map_found}

-- ---- causes that may be there

or_caused : (program : ProgramTree) (trait : Trait) (first second : Option Cause) → IsCaused program trait first →
    IsCaused program trait second → IsCaused program trait (or_else first second)
or_caused program trait None second one other = other
or_caused program trait (Some cause) second one other = one

first_caused : (program : ProgramTree) (trait : Trait) (first second : Option Cause) → IsCaused program trait first →
    IsCaused program trait second → IsCaused program trait (or_first first second)
first_caused program trait None second one other = other
first_caused program trait (Some cause) second one other = one

where_caused : (program : ProgramTree) (trait : Trait) (test : Bool) (source : Source) →
    (IsTrue test → IsTraitSource program trait source) → IsCaused program trait (cause_where test source)
where_caused program trait true source so = (so refl, tt)
where_caused program trait false source so = tt

if_caused : (program : ProgramTree) (trait : Trait) (test : Bool) (found : Option Cause) →
    IsCaused program trait found →
    IsCaused program trait (if test then found else None)
if_caused program trait true found is = is
if_caused program trait false found is = tt

through_caused : (program : ProgramTree) (trait : Trait) (via : Via) (cause : Option Cause) → IsVia program via →
    IsCaused program trait cause → IsCaused program trait (through via cause)
through_caused program trait via None there is = tt
through_caused program trait via (Some cause) there is = (is.0, there)

-- ---- where a search stands

-- a label with the trait that is written in this statement is a source
abbrev MayWrite : ProgramTree → Trait → StmtId → List Label → Type 0
MayWrite program trait here labels = Any (λ label. IsTrue (has trait label)) labels →
    IsTraitSource program trait (Written here)

-- the program label and the variables have true causes
record IsTrueAt (setting : MethodSetting) (trait : Trait) (of_pc : Option Cause) (causes : VarId → Option Cause) :
    Type 0 where
  pc : IsCaused setting.program trait of_pc
  variables : (x : VarId) → IsCaused setting.program trait (causes x)

-- ---- expressions

-- the written labels of an operand, and one more
written_inside : (setting : MethodSetting) (trait : Trait) (here : StmtId) (operand : ExprTree) (label : Label) →
    MayWrite setting.program trait here (written_in operand ++ label ∷ []) →
    MayWrite setting.program trait here (written_in operand)
written_inside setting trait here operand label may some =
    may (any_left (λ one. IsTrue (has trait one)) (written_in operand) (label ∷ []) some)

written_own : (setting : MethodSetting) (trait : Trait) (here : StmtId) (operand : ExprTree) (label : Label) →
    MayWrite setting.program trait here (written_in operand ++ label ∷ []) → IsTrue (has trait label) →
    IsTraitSource setting.program trait (Written here)
written_own setting trait here operand label may is =
    may (any_right (λ one. IsTrue (has trait one)) (written_in operand) (label ∷ [])
    (any_here (λ one. IsTrue (has trait one)) label [] is))

in_left : (setting : MethodSetting) (trait : Trait) (here : StmtId) (one other : List Label) →
    MayWrite setting.program trait here (one ++ other) → MayWrite setting.program trait here one
in_left setting trait here one other may some = may (any_left (λ label. IsTrue (has trait label)) one other some)

in_right : (setting : MethodSetting) (trait : Trait) (here : StmtId) (one other : List Label) →
    MayWrite setting.program trait here (one ++ other) → MayWrite setting.program trait here other
in_right setting trait here one other may some = may (any_right (λ label. IsTrue (has trait label)) one other some)

field_caused : (setting : MethodSetting) (trait : Trait) (field : FieldId) →
    IsCaused setting.program trait (cause_where (has trait (field_label setting.program field)) (OfField field))
field_caused setting trait field =
    where_caused setting.program trait (has trait (field_label setting.program field)) (OfField field) (λ is. is)

released_caused : (setting : MethodSetting) (trait : Trait) (here : StmtId) (of_pc operand : Option Cause)
    (label : Label) →
    (IsTrue (has trait label) → IsTraitSource setting.program trait (Written here)) →
    IsCaused setting.program trait of_pc →
    IsCaused setting.program trait operand →
    IsCaused setting.program trait (released_cause trait here of_pc label operand)
released_caused setting (Keeps owner reader) here of_pc operand label so pc inner =
    or_caused setting.program (Keeps owner reader) (cause_where (has (Keeps owner reader) label) (Written here)) of_pc
    (where_caused setting.program (Keeps owner reader) (has (Keeps owner reader) label) (Written here) so) pc
released_caused setting (Distrusts principal) here of_pc operand label so pc inner = inner

endorsed_caused : (setting : MethodSetting) (trait : Trait) (here : StmtId) (of_pc operand : Option Cause)
    (label : Label) →
    (IsTrue (has trait label) → IsTraitSource setting.program trait (Written here)) →
    IsCaused setting.program trait of_pc →
    IsCaused setting.program trait operand →
    IsCaused setting.program trait (endorsed_cause trait here of_pc label operand)
endorsed_caused setting (Keeps owner reader) here of_pc operand label so pc inner = inner
endorsed_caused setting (Distrusts principal) here of_pc operand label so pc inner =
    or_caused setting.program (Distrusts principal) (cause_where (has (Distrusts principal) label) (Written here)) of_pc
    (where_caused setting.program (Distrusts principal) (has (Distrusts principal) label) (Written here) so) pc

expr_caused : (setting : MethodSetting) (trait : Trait) (here : StmtId) (of_pc : Option Cause)
    (causes : VarId → Option Cause) (value : ExprTree) → IsTrueAt setting trait of_pc causes →
    MayWrite setting.program trait here (written_in value) →
    IsCaused setting.program trait (expr_cause trait setting here of_pc causes value)
expr_caused setting trait here of_pc causes (number value) at may = tt
expr_caused setting trait here of_pc causes (local x) at may = at.variables x
expr_caused setting trait here of_pc causes (scalar field) at may = field_caused setting trait field
expr_caused setting trait here of_pc causes (element field index) at may =
    or_caused setting.program trait (expr_cause trait setting here of_pc causes index) _
    (expr_caused setting trait here of_pc causes index at may) (field_caused setting trait field)
expr_caused setting trait here of_pc causes (inverted operand) at may =
    expr_caused setting trait here of_pc causes operand at may
expr_caused setting trait here of_pc causes (negated operand) at may =
    expr_caused setting trait here of_pc causes operand at may
expr_caused setting trait here of_pc causes (binary operator left right) at may =
    or_caused setting.program trait (expr_cause trait setting here of_pc causes left)
    (expr_cause trait setting here of_pc causes right)
    (expr_caused setting trait here of_pc causes left at
    (in_left setting trait here (written_in left) (written_in right) may))
    (expr_caused setting trait here of_pc causes right at
    (in_right setting trait here (written_in left) (written_in right) may))
expr_caused setting trait here of_pc causes (declassified operand label) at may =
    released_caused setting trait here of_pc (expr_cause trait setting here of_pc causes operand) label
    (written_own setting trait here operand label may) at.pc
    (expr_caused setting trait here of_pc causes operand at (written_inside setting trait here operand label may))
expr_caused setting trait here of_pc causes (endorsed operand label) at may =
    endorsed_caused setting trait here of_pc (expr_cause trait setting here of_pc causes operand) label
    (written_own setting trait here operand label may) at.pc
    (expr_caused setting trait here of_pc causes operand at (written_inside setting trait here operand label may))

use_caused : (setting : MethodSetting) (trait : Trait) (here : StmtId) (of_pc : Option Cause)
    (causes : VarId → Option Cause) (value : ExprTree) → IsTrueAt setting trait of_pc causes →
    MayWrite setting.program trait here (written_in value) →
    IsCaused setting.program trait (use_cause trait setting here of_pc causes value)
use_caused setting trait here of_pc causes (number value) at may = tt
use_caused setting trait here of_pc causes (local x) at may = at.variables x
use_caused setting trait here of_pc causes (scalar field) at may = field_caused setting trait field
use_caused setting trait here of_pc causes (element field index) at may =
    first_caused setting.program trait (use_cause trait setting here of_pc causes index) _
    (use_caused setting trait here of_pc causes index at may)
    (expr_caused setting trait here of_pc causes (element field index) at may)
use_caused setting trait here of_pc causes (inverted operand) at may =
    first_caused setting.program trait (use_cause trait setting here of_pc causes operand) _
    (use_caused setting trait here of_pc causes operand at may)
    (expr_caused setting trait here of_pc causes (inverted operand) at may)
use_caused setting trait here of_pc causes (negated operand) at may =
    first_caused setting.program trait (use_cause trait setting here of_pc causes operand) _
    (use_caused setting trait here of_pc causes operand at may)
    (expr_caused setting trait here of_pc causes (negated operand) at may)
use_caused setting trait here of_pc causes (binary operator left right) at may =
    first_caused setting.program trait (use_cause trait setting here of_pc causes left) _
    (use_caused setting trait here of_pc causes left at
    (in_left setting trait here (written_in left) (written_in right) may))
    (first_caused setting.program trait (use_cause trait setting here of_pc causes right) _
    (use_caused setting trait here of_pc causes right at
    (in_right setting trait here (written_in left) (written_in right) may))
    (expr_caused setting trait here of_pc causes (binary operator left right) at may))
use_caused setting trait here of_pc causes (declassified operand label) at may =
    first_caused setting.program trait (use_cause trait setting here of_pc causes operand) _
    (use_caused setting trait here of_pc causes operand at (written_inside setting trait here operand label may))
    (expr_caused setting trait here of_pc causes (declassified operand label) at may)
use_caused setting trait here of_pc causes (endorsed operand label) at may =
    first_caused setting.program trait (use_cause trait setting here of_pc causes operand) _
    (use_caused setting trait here of_pc causes operand at (written_inside setting trait here operand label may))
    (expr_caused setting trait here of_pc causes (endorsed operand label) at may)

index_caused : (setting : MethodSetting) (trait : Trait) (here : StmtId) (of_pc : Option Cause)
    (causes : VarId → Option Cause) (array : FieldId) (value : ExprTree) → IsTrueAt setting trait of_pc causes →
    MayWrite setting.program trait here (written_in value) →
    IsCaused setting.program trait (index_cause trait setting here of_pc causes array value)
index_caused setting trait here of_pc causes array (number value) at may = tt
index_caused setting trait here of_pc causes array (local x) at may = tt
index_caused setting trait here of_pc causes array (scalar field) at may = tt
index_caused setting trait here of_pc causes array (element field index) at may =
    first_caused setting.program trait (index_cause trait setting here of_pc causes array index)
    (own_index_cause trait setting here of_pc causes array field index)
    (index_caused setting trait here of_pc causes array index at may)
    (if_caused setting.program trait (field.0 == array.0) (expr_cause trait setting here of_pc causes index)
    (expr_caused setting trait here of_pc causes index at may))
index_caused setting trait here of_pc causes array (inverted operand) at may =
    index_caused setting trait here of_pc causes array operand at may
index_caused setting trait here of_pc causes array (negated operand) at may =
    index_caused setting trait here of_pc causes array operand at may
index_caused setting trait here of_pc causes array (binary operator left right) at may =
    first_caused setting.program trait (index_cause trait setting here of_pc causes array left)
    (index_cause trait setting here of_pc causes array right)
    (index_caused setting trait here of_pc causes array left at
    (in_left setting trait here (written_in left) (written_in right) may))
    (index_caused setting trait here of_pc causes array right at
    (in_right setting trait here (written_in left) (written_in right) may))
index_caused setting trait here of_pc causes array (declassified operand label) at may =
    index_caused setting trait here of_pc causes array operand at (written_inside setting trait here operand label may)
index_caused setting trait here of_pc causes array (endorsed operand label) at may =
    index_caused setting trait here of_pc causes array operand at (written_inside setting trait here operand label may)

-- ---- statements

one_caused : (question : Question) (setting : MethodSetting) (trait : Trait) (here : StmtId) (of_pc : Option Cause)
    (causes : VarId → Option Cause) (value : ExprTree) → IsTrueAt setting trait of_pc causes →
    MayWrite setting.program trait here (written_in value) →
    IsCaused setting.program trait (expr_answer question trait setting here of_pc causes value)
one_caused OfRun setting trait here of_pc causes value at may = tt
one_caused OfUse setting trait here of_pc causes value at may = use_caused setting trait here of_pc causes value at may
one_caused (OfIndex array) setting trait here of_pc causes value at may =
    index_caused setting trait here of_pc causes array value at may

all_caused : (question : Question) (setting : MethodSetting) (trait : Trait) (here : StmtId) (of_pc : Option Cause)
    (causes : VarId → Option Cause) (values : List ExprTree) → IsTrueAt setting trait of_pc causes →
    MayWrite setting.program trait here (flat_map written_in values) →
    IsCaused setting.program trait (first_some (expr_answer question trait setting here of_pc causes) values)
all_caused question setting trait here of_pc causes [] at may = tt
all_caused question setting trait here of_pc causes (value ∷ values) at may =
    let P : List Label → Type 0 = λ labels. MayWrite setting.program trait here labels in
    let both : MayWrite setting.program trait here (written_in value ++ flat_map written_in values) =
    subst P (flat_map-cons written_in value values) may in
    first_caused setting.program trait (expr_answer question trait setting here of_pc causes value) _
    (one_caused question setting trait here of_pc causes value at
    (in_left setting trait here (written_in value) (flat_map written_in values) both))
    (all_caused question setting trait here of_pc causes values at
    (in_right setting trait here (written_in value) (flat_map written_in values) both))

run_caused : (question : Question) (program : ProgramTree) (trait : Trait) (of_pc : Option Cause) →
    IsCaused program trait of_pc → IsCaused program trait (run_answer question of_pc)
run_caused OfRun program trait of_pc is = is
run_caused OfUse program trait of_pc is = tt
run_caused (OfIndex array) program trait of_pc is = tt

answer_caused : (question : Question) (setting : MethodSetting) (trait : Trait) (here : StmtId) (of_pc : Option Cause)
    (causes : VarId → Option Cause) (values : List ExprTree) → IsTrueAt setting trait of_pc causes →
    MayWrite setting.program trait here (flat_map written_in values) →
    IsCaused setting.program trait (answer question trait setting here of_pc causes values)
answer_caused question setting trait here of_pc causes values at may =
    first_caused setting.program trait (run_answer question of_pc) _
    (run_caused question setting.program trait of_pc at.pc)
    (all_caused question setting trait here of_pc causes values at may)

-- ---- blocks

-- a statement has this number, and is so
abbrev Of : StmtId → (BlockTree → Type 0) → BlockTree → Type 0
Of here is one = (id_of one ≡ here) × is one

abbrev Writes : Trait → BlockTree → Type 0
Writes trait one = Any (λ label. IsTrue (has trait label)) (flat_map written_in (exprs_of one))

-- these statements stand in the program
record Stand (program : ProgramTree) (trait : Trait) (statements : List BlockTree) : Type 0 where
  writes : (here : StmtId) → IsOneOf here (Writes trait) statements → IsTraitSource program trait (Written here)
  locals : (x : VarId) (here : StmtId) → IsOneOf here (SetsLocal x) statements → IsVia program (ByLocal x here)
  guards : (here : StmtId) → IsOneOf here HasGuard statements → IsVia program (ByGuard here)

may_own : (program : ProgramTree) (trait : Trait) (one : BlockTree) (statements : List BlockTree) →
    Stand program trait (one ∷ statements) → MayWrite program trait (id_of one) (flat_map written_in (exprs_of one))
may_own program trait one statements may some =
    may.writes (id_of one) (any_here (Of (id_of one) (Writes trait)) one statements (refl, some))

may_rest : (program : ProgramTree) (trait : Trait) (one : BlockTree) (statements : List BlockTree) →
    Stand program trait (one ∷ statements) → Stand program trait statements
may_rest program trait one statements may = record {
  writes = λ here some. may.writes here (any_later (Of here (Writes trait)) one statements some);
  locals = λ x here some. may.locals x here (any_later (Of here (SetsLocal x)) one statements some);
  guards = λ here some. may.guards here (any_later (Of here HasGuard) one statements some);
}

may_left : (program : ProgramTree) (trait : Trait) (first second : List BlockTree) →
    Stand program trait (first ++ second) → Stand program trait first
may_left program trait first second may = record {
  writes = λ here some. may.writes here (any_left (Of here (Writes trait)) first second some);
  locals = λ x here some. may.locals x here (any_left (Of here (SetsLocal x)) first second some);
  guards = λ here some. may.guards here (any_left (Of here HasGuard) first second some);
}

may_right : (program : ProgramTree) (trait : Trait) (first second : List BlockTree) →
    Stand program trait (first ++ second) → Stand program trait second
may_right program trait first second may = record {
  writes = λ here some. may.writes here (any_right (Of here (Writes trait)) first second some);
  locals = λ x here some. may.locals x here (any_right (Of here (SetsLocal x)) first second some);
  guards = λ here some. may.guards here (any_right (Of here HasGuard) first second some);
}

-- the only expression of a statement
may_one : (program : ProgramTree) (trait : Trait) (here : StmtId) (value : ExprTree) →
    MayWrite program trait here (flat_map written_in (value ∷ [])) → MayWrite program trait here (written_in value)
may_one program trait here value may some =
    let P : List Label → Type 0 = Any (λ label. IsTrue (has trait label)) in
    may (subst P (sym (flat_map-cons written_in value []))
    (any_left (λ label. IsTrue (has trait label)) (written_in value) (flat_map written_in []) some))

with_caused : (setting : MethodSetting) (trait : Trait) (causes : VarId → Option Cause) (x : VarId)
    (cause : Option Cause) → ((y : VarId) → IsCaused setting.program trait (causes y)) →
    IsCaused setting.program trait cause → (y : VarId) → IsCaused setting.program trait (with_cause causes x cause y)
with_caused setting trait causes x cause all is y = elim (cases_Bool (y.0 == x.0)) [
  | inl same ↦ rw same is
  | inr other ↦ rw other (all y)
]

assigned_caused : (setting : MethodSetting) (trait : Trait) (labels : VariableLabels) (causes : VarId → Option Cause)
    (x : VarId) (here : StmtId) (cause : Option Cause) → IsVia setting.program (ByLocal x here) →
    ((y : VarId) → IsCaused setting.program trait (causes y)) → IsCaused setting.program trait cause → (y : VarId) →
    IsCaused setting.program trait (causes_after_assignment labels causes x here cause y)
assigned_caused setting trait labels causes x here cause there all is = by (slice_get labels x.0) refl
  where
    by : (found : Option (Option Label)) → slice_get labels x.0 ≡ found → (y : VarId) →
        IsCaused setting.program trait (causes_after_assignment labels causes x here cause y)
    by None found y = rw found (all y)
    by (Some (Some declared)) found y = rw found (all y)
    by (Some None) found y =
        rw found (with_caused setting trait causes x (through (ByLocal x here) cause) all
        (through_caused setting.program trait (ByLocal x here) cause there is) y)

guarded_caused : (setting : MethodSetting) (trait : Trait) (here : StmtId) (of_pc : Option Cause)
    (causes : VarId → Option Cause) (guard : ExprTree) → IsVia setting.program (ByGuard here) →
    IsTrueAt setting trait of_pc causes → MayWrite setting.program trait here (written_in guard) →
    IsTrueAt setting trait (guarded_cause trait setting here of_pc causes guard) causes
guarded_caused setting trait here of_pc causes guard there at may = record {
  pc = or_caused setting.program trait of_pc _ at.pc
      (through_caused setting.program trait (ByGuard here) (expr_cause trait setting here of_pc causes guard) there
      (expr_caused setting trait here of_pc causes guard at may));
  variables = at.variables;
}

value_caused : (setting : MethodSetting) (trait : Trait) (here : StmtId) (of_pc : Option Cause)
    (causes : VarId → Option Cause) (value : ExprTree) → IsTrueAt setting trait of_pc causes →
    MayWrite setting.program trait here (written_in value) →
    IsCaused setting.program trait (or_else (expr_cause trait setting here of_pc causes value) of_pc)
value_caused setting trait here of_pc causes value at may =
    or_caused setting.program trait (expr_cause trait setting here of_pc causes value) of_pc
    (expr_caused setting trait here of_pc causes value at may) at.pc

-- the answers of a block are true causes, and the variables behind it have true ones
record IsBlockTrue (question : Question) (trait : Trait) (setting : MethodSetting) (pc : Label) (of_pc : Option Cause)
    (labels : VariableLabels) (causes : VarId → Option Cause) (block : BlockTree) : Type 0 where
  answers : All (IsCaused setting.program trait) (block_answers question trait setting pc of_pc labels causes block)
  after : (x : VarId) →
      IsCaused setting.program trait (causes_after trait setting pc of_pc labels causes block x)

block_caused : (question : Question) (trait : Trait) (setting : MethodSetting) (pc : Label) (of_pc : Option Cause)
    (labels : VariableLabels) (causes : VarId → Option Cause) (block : BlockTree) →
    IsTrueAt setting trait of_pc causes →
    Stand setting.program trait (statements_in block) →
    IsBlockTrue question trait setting pc of_pc labels causes block
block_caused question trait setting pc of_pc labels causes done at may =
    record { answers = All-nil (IsCaused setting.program trait); after = at.variables }
block_caused question trait setting pc of_pc labels causes (set_local heading x value rest) at may =
    let alone : BlockTree = set_local heading x value done in
    let own = may_own setting.program trait alone (statements_in rest) may in
    let one = may_one setting.program trait heading.id value own in
    let cause : Option Cause = or_else (expr_cause trait setting heading.id of_pc causes value) of_pc in
    let behind = block_caused question trait setting pc of_pc
    (labels_after_assignment labels x (join_of (expr_label setting pc labels value) pc))
    (causes_after_assignment labels causes x heading.id cause) rest (record {
      pc = at.pc;
      variables = assigned_caused setting trait labels causes x heading.id cause
          (may.locals x heading.id
          (any_here (Of heading.id (SetsLocal x)) alone (statements_in rest) (refl, refl))) at.variables
          (value_caused setting trait heading.id of_pc causes value at one);
    }) (may_rest setting.program trait alone (statements_in rest) may) in
    record {
      answers = All-cons (IsCaused setting.program trait)
          (answer question trait setting heading.id of_pc causes (value ∷ [])) _
          (answer_caused question setting trait heading.id of_pc causes (value ∷ []) at own) behind.answers;
      after = behind.after;
    }
block_caused question trait setting pc of_pc labels causes (set_field heading field value rest) at may =
    let alone : BlockTree = set_field heading field value done in
    let behind = block_caused question trait setting pc of_pc labels causes rest at
    (may_rest setting.program trait alone (statements_in rest) may) in
    record {
      answers = All-cons (IsCaused setting.program trait)
          (answer question trait setting heading.id of_pc causes (value ∷ [])) _
          (answer_caused question setting trait heading.id of_pc causes (value ∷ []) at
          (may_own setting.program trait alone (statements_in rest) may)) behind.answers;
      after = behind.after;
    }
block_caused question trait setting pc of_pc labels causes (set_element heading field index value rest) at may =
    let alone : BlockTree = set_element heading field index value done in
    let behind = block_caused question trait setting pc of_pc labels causes rest at
    (may_rest setting.program trait alone (statements_in rest) may) in
    record {
      answers = All-cons (IsCaused setting.program trait)
          (answer question trait setting heading.id of_pc causes (index ∷ value ∷ [])) _
          (answer_caused question setting trait heading.id of_pc causes (index ∷ value ∷ []) at
          (may_own setting.program trait alone (statements_in rest) may)) behind.answers;
      after = behind.after;
    }
block_caused question trait setting pc of_pc labels causes (branch heading guard first second rest) at may =
    let P : Option Cause → Type 0 = IsCaused setting.program trait in
    let alone : BlockTree = branch heading guard first second done in
    let both : List BlockTree = statements_in first ++ statements_in second in
    let own = may_own setting.program trait alone (both ++ statements_in rest) may in
    let later = may_rest setting.program trait alone (both ++ statements_in rest) may in
    let nested = may_left setting.program trait both (statements_in rest) later in
    let inside : Label = guarded setting pc labels guard in
    let of_inside : Option Cause = guarded_cause trait setting heading.id of_pc causes guard in
    let at_inside = guarded_caused setting trait heading.id of_pc causes guard
    (may.guards heading.id (any_here (Of heading.id HasGuard) alone (both ++ statements_in rest) (refl, tt))) at
    (may_one setting.program trait heading.id guard own) in
    let between : VariableLabels = labels_after setting inside labels first in
    let causes_between : VarId → Option Cause = causes_after trait setting inside of_inside labels causes first in
    let one = block_caused question trait setting inside of_inside labels causes first at_inside
    (may_left setting.program trait (statements_in first) (statements_in second) nested) in
    let two = block_caused question trait setting inside of_inside between causes_between second
    (record { pc = at_inside.pc; variables = one.after })
    (may_right setting.program trait (statements_in first) (statements_in second) nested) in
    let causes_behind : VarId → Option Cause =
    causes_after trait setting inside of_inside between causes_between second in
    let labels_behind : VariableLabels = labels_after setting inside between second in
    let behind = block_caused question trait setting pc of_pc labels_behind causes_behind rest
    (record { pc = at.pc; variables = two.after })
    (may_right setting.program trait both (statements_in rest) later) in
    let firsts : List (Option Cause) = block_answers question trait setting inside of_inside labels causes first in
    let seconds : List (Option Cause) =
    block_answers question trait setting inside of_inside between causes_between second in
    let rests : List (Option Cause) =
    block_answers question trait setting pc of_pc labels_behind causes_behind rest in
    record {
      answers = All-cons P (answer question trait setting heading.id of_pc causes (guard ∷ []))
          ((firsts ++ seconds) ++ rests)
          (answer_caused question setting trait heading.id of_pc causes (guard ∷ []) at own)
          (All-append P (firsts ++ seconds) rests (All-append P firsts seconds one.answers two.answers) behind.answers);
      after = behind.after;
    }
block_caused question trait setting pc of_pc labels causes (loop heading guard body rest) at may =
    let P : Option Cause → Type 0 = IsCaused setting.program trait in
    let alone : BlockTree = loop heading guard body done in
    let own = may_own setting.program trait alone (statements_in body ++ statements_in rest) may in
    let later = may_rest setting.program trait alone (statements_in body ++ statements_in rest) may in
    let inside : Label = guarded setting pc labels guard in
    let of_inside : Option Cause = guarded_cause trait setting heading.id of_pc causes guard in
    let at_inside = guarded_caused setting trait heading.id of_pc causes guard
    (may.guards heading.id
    (any_here (Of heading.id HasGuard) alone (statements_in body ++ statements_in rest) (refl, tt))) at
    (may_one setting.program trait heading.id guard own) in
    let one = block_caused question trait setting inside of_inside labels causes body at_inside
    (may_left setting.program trait (statements_in body) (statements_in rest) later) in
    let causes_behind : VarId → Option Cause = causes_after trait setting inside of_inside labels causes body in
    let labels_behind : VariableLabels = labels_after setting inside labels body in
    let behind = block_caused question trait setting pc of_pc labels_behind causes_behind rest
    (record { pc = at.pc; variables = one.after })
    (may_right setting.program trait (statements_in body) (statements_in rest) later) in
    let bodies : List (Option Cause) = block_answers question trait setting inside of_inside labels causes body in
    let rests : List (Option Cause) =
    block_answers question trait setting pc of_pc labels_behind causes_behind rest in
    record {
      answers = All-cons P (answer question trait setting heading.id of_inside causes (guard ∷ [])) (bodies ++ rests)
          (answer_caused question setting trait heading.id of_inside causes (guard ∷ []) at_inside own)
          (All-append P bodies rests one.answers behind.answers);
      after = behind.after;
    }
block_caused question trait setting pc of_pc labels causes (call heading site method arguments into rest) at may =
    let alone : BlockTree = call heading site method arguments into done in
    let behind = block_caused question trait setting pc of_pc labels causes rest at
    (may_rest setting.program trait alone (statements_in rest) may) in
    record {
      answers = All-cons (IsCaused setting.program trait)
          (answer question trait setting heading.id of_pc causes arguments) _
          (answer_caused question setting trait heading.id of_pc causes arguments at
          (may_own setting.program trait alone (statements_in rest) may)) behind.answers;
      after = behind.after;
    }
block_caused question trait setting pc of_pc labels causes (give_back heading value rest) at may =
    let alone : BlockTree = give_back heading value done in
    let behind = block_caused question trait setting pc of_pc labels causes rest at
    (may_rest setting.program trait alone (statements_in rest) may) in
    record {
      answers = All-cons (IsCaused setting.program trait)
          (answer question trait setting heading.id of_pc causes (value ∷ [])) _
          (answer_caused question setting trait heading.id of_pc causes (value ∷ []) at
          (may_own setting.program trait alone (statements_in rest) may)) behind.answers;
      after = behind.after;
    }

-- ---- programs

-- these methods stand in the program, from this number on
abbrev StandFrom : ProgramTree → ℕ → List MethodTree → Type 0
StandFrom program place methods = (k : ℕ) → slice_get program.methods (place + k) ≡ slice_get methods k

first_stands : (program : ProgramTree) (place : ℕ) (method : MethodTree) (methods : List MethodTree) →
    StandFrom program place (method ∷ methods) → slice_get program.methods place ≡ Some method
first_stands program place method methods stand =
    let same : place ≡ place + 0 = omega arith in
    ap (slice_get program.methods) same ∙ stand 0

others_stand : (program : ProgramTree) (place : ℕ) (method : MethodTree) (methods : List MethodTree) →
    StandFrom program place (method ∷ methods) → StandFrom program (place + 1) methods
others_stand program place method methods stand k =
    let same : (place + 1) + k ≡ place + suc k = omega arith in
    ap (slice_get program.methods) same ∙ stand (suc k)

begin_caused : (program : ProgramTree) (trait : Trait) (place : ℕ) (method : MethodTree) →
    slice_get program.methods place ≡ Some method →
    IsCaused program trait (begin_cause trait (record { 0 = place }) method.begin)
begin_caused program trait place method there =
    where_caused program trait (has trait method.begin) (OfBegin (record { 0 = place })) (λ is.
    let P : Option MethodTree → Type 0 = λ found. IsTrue (has trait (begin_label found)) in
    subst P (sym there) is)

-- the statements of a method of the program
method_stands : (program : ProgramTree) (trait : Trait) (place : ℕ) (method : MethodTree) →
    slice_get program.methods place ≡ Some method → Stand program trait (statements_in method.body)
method_stands program trait place method there = record {
  writes = λ here some. (place, method, within, read, some);
  locals = λ x here some. (place, method, within, read, some);
  guards = λ here some. (place, method, within, read, some);
}
  where
    within : place < length program.methods
    within = slice_get_within program.methods place method there

    read : get_or program.methods place method ≡ method
    read = get_or_from_slice_get program.methods place method method there

methods_caused : (question : Question) (trait : Trait) (principals : Declared) (program : ProgramTree) (place : ℕ)
    (labels : VariableLabels) (causes : VarId → Option Cause) (methods : List MethodTree) →
    ((x : VarId) → IsCaused program trait (causes x)) → StandFrom program place methods →
    All (IsCaused program trait) (methods_answers question trait principals program place labels causes methods)
methods_caused question trait principals program place labels causes [] all stand = All-nil (IsCaused program trait)
methods_caused question trait principals program place labels causes (method ∷ methods) all stand =
    let P : Option Cause → Type 0 = IsCaused program trait in
    let setting : MethodSetting = setting_of principals program method in
    let of_begin : Option Cause = begin_cause trait (record { 0 = place }) method.begin in
    let there = first_stands program place method methods stand in
    let begins = begin_caused program trait place method there in
    let one = block_caused question trait setting method.begin of_begin labels causes method.body
    (record { pc = begins; variables = all }) (method_stands program trait place method there) in
    let behind = methods_caused question trait principals program (place + 1)
    (labels_after setting method.begin labels method.body)
    (causes_after trait setting method.begin of_begin labels causes method.body) methods one.after
    (others_stand program place method methods stand) in
    All-cons P of_begin _ begins
    (All-append P (block_answers question trait setting method.begin of_begin labels causes method.body)
    (methods_answers question trait principals program (place + 1)
    (labels_after setting method.begin labels method.body)
    (causes_after trait setting method.begin of_begin labels causes method.body) methods) one.answers behind)

declared_caused : (program : ProgramTree) (trait : Trait) (x : VarId) →
    IsCaused program trait (declared_causes trait (declared_labels program) x)
declared_caused program trait x = by (slice_get (declared_labels program) x.0) refl
  where
    by : (found : Option (Option Label)) → slice_get (declared_labels program) x.0 ≡ found →
        IsCaused program trait (label_cause trait x found)
    by None is = tt
    by (Some None) is = tt
    by (Some (Some label)) is =
        where_caused program trait (has trait label) (OfVariable x) (λ held. (label, is, held))

all_at : (program : ProgramTree) (trait : Trait) (causes : List (Option Cause)) →
    All (IsCaused program trait) causes → (place : ℕ) →
    IsCaused program trait (unwrap_or (slice_get causes place) None)
all_at program trait causes all place = elim (slice_get_cases causes place).1 [
  | inl (cause, within, is, read) ↦
      let P : Option (Option Cause) → Type 0 = λ found. IsCaused program trait (unwrap_or found None) in
      let Q : Option Cause → Type 0 = IsCaused program trait in
      subst P (sym is) (subst Q read (all place cause within))
  | inr (past, missing) ↦
      let P : Option (Option Cause) → Type 0 = λ found. IsCaused program trait (unwrap_or found None) in
      subst P (sym missing) tt
]

-- what is answered of a statement is a true cause
pub answer_true : (question : Question) (principals : Declared) (program : ProgramTree) (statement : StmtId)
    (trait : Trait) → IsCaused program trait (answer_at question principals program statement trait)
answer_true question principals program statement trait =
    all_at program trait (program_answers question trait principals program)
    (methods_caused question trait principals program 0 (declared_labels program)
    (declared_causes trait (declared_labels program)) program.methods (declared_caused program trait)
    (λ k. ap (slice_get program.methods) (omega arith))) statement.0

-- ---- reasons

kept_true : (site : Site) (method : MethodId) (into kept : Option VarId) (reason : PlaceReason) →
    kept_row site method into kept ≡ Some reason → IsCauseTrue site.labelled.program reason
kept_true site method None None reason is = absurd (none-some reason is)
kept_true site method None (Some result) reason is = absurd (none-some reason is)
kept_true site method (Some into) None reason is = absurd (none-some reason is)
kept_true site method (Some into) (Some result) reason is =
    let made = map_found (λ pair. row.CallGives pair method) (pair_at site (label_of site.labelled result)) reason is in
    subst (IsCauseTrue site.labelled.program) made.2 tt

call_true : (site : Site) (block : BlockTree) (reason : PlaceReason) → call_row site block ≡ Some reason →
    IsCauseTrue site.labelled.program reason
call_true site done reason is = absurd (none-some reason is)
call_true site (set_local heading x value rest) reason is = absurd (none-some reason is)
call_true site (set_field heading field value rest) reason is = absurd (none-some reason is)
call_true site (set_element heading field index value rest) reason is = absurd (none-some reason is)
call_true site (branch heading guard first second rest) reason is = absurd (none-some reason is)
call_true site (loop heading guard body rest) reason is = absurd (none-some reason is)
call_true site (call heading place method arguments into rest) reason is =
    let called : Option MethodTree = method_at site.labelled.program method in
    or_so (IsCauseTrue site.labelled.program)
    (option_map (λ pair. row.CallBegins pair method) (pair_at site (begin_label called)))
    (kept_row site method into (result_of called)) reason
    (λ z one.
    let made = map_found (λ pair. row.CallBegins pair method) (pair_at site (begin_label called)) z one in
    subst (IsCauseTrue site.labelled.program) made.2 tt)
    (λ z other. kept_true site method into (result_of called) z other) is
call_true site (give_back heading value rest) reason is = absurd (none-some reason is)

backed_true : (program : ProgramTree) (principal : ℕ) (found : Backed) →
    IsCauseTrue program (backed_reason principal found)
backed_true program principal (backed.Change what here) = tt
backed_true program principal (backed.Release member here) = tt

pub statement_cause_true : AreTrusted →
    (principals : Declared) (labelled : Labelled) (host : Label) (method : MethodTree)
    (block : BlockTree) (reason : PlaceReason) → statement_reason principals labelled host method block ≡ Some reason →
    IsCauseTrue labelled.program reason
statement_cause_true tells principals labelled host method block reason is =
    let site : Site = site_of principals labelled host method in
    let P : PlaceReason → Type 0 = IsCauseTrue labelled.program in
    or_so P (run_row site block)
    (or_first (use_row site block) (or_first (call_row site block) (need_row site block))) reason
    (λ z one.
    let made = map_found (λ pair. row.Runs pair (answer_at OfRun principals labelled.program (id_of block) pair))
    (pair_at site (pc_at site (id_of block))) z one in
    subst P made.2 (answer_true OfRun principals labelled.program (id_of block) made.0))
    (λ y later. or_so P (use_row site block) (or_first (call_row site block) (need_row site block)) y
    (λ z one.
    let made = map_found (λ pair. row.Uses pair (answer_at OfUse principals labelled.program (id_of block) pair))
    (used_by site (id_of block) (exprs_of block)) z one in
    subst P made.2 (answer_true OfUse principals labelled.program (id_of block) made.0))
    (λ x behind. or_so P (call_row site block) (need_row site block) x
    (λ z one. call_true site block z one)
    (λ z one.
    let made = need_so tells site block z one in
    subst P made.same (backed_true labelled.program made.principal made.found)) behind) later) is

told_true : (principals : Declared) (program : ProgramTree) (field : FieldId) (told : Told) →
    IsCauseTrue program (told_reason principals program field told)
told_true principals program field (Read pair statement) = answer_true OfRun principals program statement pair
told_true principals program field (Index pair statement) =
    answer_true (OfIndex field) principals program statement pair

pub field_cause_true : (principals : Declared) (labelled : Labelled) (host : Label) (field : FieldId)
    (reason : PlaceReason) → field_reason principals labelled host field ≡ Some reason →
    IsCauseTrue labelled.program reason
field_cause_true principals labelled host field reason is =
    let P : PlaceReason → Type 0 = IsCauseTrue labelled.program in
    let label : Label = field_label labelled.program field in
    or_so P (own_row principals labelled host field)
    (or_first (told_row principals labelled host field) (trust_row principals labelled host field)) reason
    (λ z one.
    let made = map_found (λ pair. row.Own pair) (first_pair principals label host) z one in subst P made.2 tt)
    (λ y later. or_so P (told_row principals labelled host field) (trust_row principals labelled host field) y
    (λ z one.
    let made = map_found (told_reason principals labelled.program field)
    (first_some (method_told principals labelled host field) labelled.program.methods) z one in
    subst P made.2 (told_true principals labelled.program field made.0))
    (λ z one.
    let made = map_found (λ principal. row.Untrusted principal) (first_untrusting principals host label) z one in
    subst P made.2 tt) later) is
