-- An expression has a cause exactly where its label has the trait.
use Rattle.std.proofs.Common.{◌↔◌, ◌⊎◌, inl, inr, IsTrue, ℕ, Bool, true, false, not, refl}
use Rattle.std.proofs.Math.Logic.{⊎_swap}
use Rattle.std.proofs.lemmas.Bool.{false≢true}
use Rattle.std.specs.Prelude.{Option, Some, None, IsSome}
use Rattle.js_base.specs.declared.ids.StmtId.{StmtId}
use Rattle.js_base.specs.declared.ids.VarId.{VarId}
use Rattle.principals.specs.ActsFor.{Declared}
use Rattle.label_lattice.specs.declared.label.Label.{Label}
use Rattle.label_lattice.specs.Label.{Forbids, Trusts, IsLabel, IsBottom, ForbidsNothing, IsUntrusted}
use Rattle.label_lattice.specs.Lattice.{IsIntegrityMeet, join_of, meet_of, empty_label, bottom_of}
use Rattle.label_lattice.specs.Printed.{is_trusted_by}
use Rattle.jif_tree.specs.Trees.{ExprTree, number, local, scalar, element, inverted, negated, binary, declassified}
use Rattle.jif_tree.specs.Trees.{endorsed}
use Rattle.jif_tree.specs.LabelRules.{MethodSetting, VariableLabels, expr_label, field_label, crossed}
use Rattle.jif_tree.specs.ValueLabels.{IsExprLabelled}
use Rattle.label_reasons.specs.declared.reason.Trait.{Trait}
use Rattle.label_reasons.specs.declared.reason.Trait.TheVariants.{Keeps, Distrusts}
use Rattle.label_reasons.specs.declared.reason.Source.{Source}
use Rattle.label_reasons.specs.declared.reason.Source.TheVariants.{OfField, OfVariable, Written}
use Rattle.label_reasons.specs.declared.reason.Cause.{Cause}
use Rattle.label_reasons.specs.Traits.{has, IsTrait, IsDeclaredTrait}
use Rattle.label_reasons.specs.Causes.{or_else, cause_where, expr_cause, declared_causes, TellsCause, TellsVariables}
use Rattle.label_reasons.specs.Causes.{IsMadeOfLabels}
use Rattle.label_reasons.proofs.TraitTests.{AreJoined, AreTrusted, forbids_is, has_join, not_both}

-- what is cited of labels
pub record LabelLaws : Type 0 where
  pub joined : AreJoined
  pub trusted : AreTrusted
  pub met : (first second : Label) → IsIntegrityMeet first second (meet_of first second)
  pub bottom : (principals : Declared) → IsBottom principals (bottom_of principals)
  pub empty : ForbidsNothing empty_label × IsUntrusted empty_label
  pub empty_is : IsLabel empty_label

-- ---- what is so exactly where something else is

pub as_both : {P Q R : Type 0} → (P ↔ Q) → (R ↔ Q) → P ↔ R
as_both one other = (λ p. other.1 (one.0 p), λ r. one.1 (other.0 r))

in_turn : {P Q R : Type 0} → (P ↔ Q) → (Q ↔ R) → P ↔ R
in_turn one other = (λ p. other.0 (one.0 p), λ r. one.1 (other.1 r))

other_first : {P Q R : Type 0} → (P ↔ (Q ⊎ R)) → P ↔ (R ⊎ Q)
other_first both = (λ p. ⊎_swap (both.0 p), λ either. both.1 (⊎_swap either))

-- ---- causes that may be there

pub or_some : {P Q : Type 0} (first second : Option Cause) → (IsSome first ↔ P) → (IsSome second ↔ Q) →
    IsSome (or_else first second) ↔ (P ⊎ Q)
or_some (Some cause) second one other = (λ is. inl (one.0 is), λ either. refl)
or_some None second one other = (
  λ is. inr (other.0 is),
  λ either. elim either [ inl here ↦ absurd (false≢true (one.1 here)) | inr here ↦ other.1 here ],
)

pub where_some : (test : Bool) (source : Source) → IsSome (cause_where test source) ↔ IsTrue test
where_some true source = (λ is. refl, λ is. refl)
where_some false source = (λ is. is, λ is. is)

-- each variable that is declared with a label
pub declared_tells : (trait : Trait) (labels : VariableLabels) →
    TellsVariables trait (declared_causes trait labels) labels
declared_tells trait labels x (label, there) = rw there (where_some (has trait label) (OfVariable x))

-- ---- traits of the labels of which an expression has its own

pub is_trait : (principals : Declared) (trait : Trait) → IsDeclaredTrait principals trait → IsTrait trait
is_trait principals (Keeps owner reader) within = within
is_trait principals (Distrusts principal) within = within.0

bottom_free : LabelLaws → (principals : Declared) (trait : Trait) → IsDeclaredTrait principals trait →
    ¬ IsTrue (has trait (bottom_of principals))
bottom_free laws principals (Keeps owner reader) within is =
    (laws.bottom principals).forbids owner reader within.0 within.1
    ((forbids_is (bottom_of principals) owner reader).0 is)
bottom_free laws principals (Distrusts principal) within is =
    not_both (is_trusted_by (bottom_of principals) principal)
    ((laws.trusted (bottom_of principals) principal).1
    (((laws.bottom principals).trusts principal within.0).1 within.1)) is

-- What is crossed keeps what the first label keeps.
crossed_keeps : LabelLaws → (first second : Label) (owner reader : ℕ) → IsTrait (Keeps owner reader) → IsLabel first →
    IsTrue (has (Keeps owner reader) (crossed first second)) ↔ IsTrue (has (Keeps owner reader) first)
crossed_keeps laws first second owner reader within one = (
  λ is. (forbids_is first owner reader).1
      (elim (sets.0 (meets.0 ((forbids_is (crossed first second) owner reader).0 is))) [
        | inl here ↦ here
        | inr there ↦ absurd (laws.empty.0 owner reader within.0 within.1 there)
      ]),
  λ is. (forbids_is (crossed first second) owner reader).1
      (meets.1 (sets.1 (inl ((forbids_is first owner reader).0 is)))),
)
  where
    meets : Forbids (crossed first second) owner reader ↔ Forbids (join_of first empty_label) owner reader
    meets = (laws.met (join_of first empty_label) second).forbids owner reader within.0 within.1

    sets : Forbids (join_of first empty_label) owner reader
        ↔ (Forbids first owner reader ⊎ Forbids empty_label owner reader)
    sets = (laws.joined first empty_label one laws.empty_is).forbids owner reader within.0 within.1

crossed_trusts : LabelLaws → (first second : Label) (principal : ℕ) → IsTrait (Distrusts principal) → IsLabel first →
    Trusts (crossed first second) principal ↔ Trusts second principal
crossed_trusts laws first second principal within one = (
  λ is. elim (meets.0 is) [
    | inl here ↦ absurd (laws.empty.1 principal within (sets.0 here).1)
    | inr there ↦ there
  ],
  λ is. meets.1 (inr is),
)
  where
    meets : Trusts (crossed first second) principal
        ↔ (Trusts (join_of first empty_label) principal ⊎ Trusts second principal)
    meets = (laws.met (join_of first empty_label) second).trusts principal within

    sets : Trusts (join_of first empty_label) principal ↔ (Trusts first principal × Trusts empty_label principal)
    sets = (laws.joined first empty_label one laws.empty_is).trusts principal within

denied_alike : (first second : Bool) → (IsTrue first ↔ IsTrue second) → IsTrue (not first) ↔ IsTrue (not second)
denied_alike true true both = (λ is. is, λ is. is)
denied_alike true false both = (λ is. refl, λ is. both.0 refl)
denied_alike false true both = (λ is. both.1 refl, λ is. refl)
denied_alike false false both = (λ is. is, λ is. is)

-- And those do not trust it that do not trust the second.
crossed_distrusts : LabelLaws → (first second : Label) (principal : ℕ) → IsTrait (Distrusts principal) →
    IsLabel first →
    IsTrue (has (Distrusts principal) (crossed first second)) ↔ IsTrue (has (Distrusts principal) second)
crossed_distrusts laws first second principal within one =
    denied_alike (is_trusted_by (crossed first second) principal) (is_trusted_by second principal)
    (as_both (in_turn (laws.trusted (crossed first second) principal)
    (crossed_trusts laws first second principal within one)) (laws.trusted second principal))

-- ---- expressions

pub expr_tells : LabelLaws → (trait : Trait) (setting : MethodSetting) (here : StmtId) (of_pc : Option Cause)
    (pc : Label) (causes : VarId → Option Cause) (labels : VariableLabels) (value : ExprTree) →
    IsDeclaredTrait setting.principals trait → IsLabel pc → IsMadeOfLabels setting pc labels value →
    TellsCause trait of_pc pc → TellsVariables trait causes labels → IsExprLabelled labels value →
    TellsCause trait (expr_cause trait setting here of_pc causes value) (expr_label setting pc labels value)
expr_tells laws trait setting here of_pc pc causes labels (number value) within pc_is are tells each known = (
  λ is. absurd (false≢true is),
  λ is. absurd (bottom_free laws setting.principals trait within is),
)
expr_tells laws trait setting here of_pc pc causes labels (local x) within pc_is are tells each known =
    each x known
expr_tells laws trait setting here of_pc pc causes labels (scalar field) within pc_is are tells each known =
    where_some (has trait (field_label setting.program field)) (OfField field)
expr_tells laws trait setting here of_pc pc causes labels (element field index) within pc_is are tells each known =
    as_both
    (other_first (or_some (expr_cause trait setting here of_pc causes index)
    (cause_where (has trait (field_label setting.program field)) (OfField field))
    (expr_tells laws trait setting here of_pc pc causes labels index within pc_is are.2 tells each known)
    (where_some (has trait (field_label setting.program field)) (OfField field))))
    (has_join laws.joined laws.trusted trait (field_label setting.program field)
    (expr_label setting pc labels index) (is_trait setting.principals trait within) are.0 are.1)
expr_tells laws trait setting here of_pc pc causes labels (inverted operand) within pc_is are tells each known =
    expr_tells laws trait setting here of_pc pc causes labels operand within pc_is are tells each known
expr_tells laws trait setting here of_pc pc causes labels (negated operand) within pc_is are tells each known =
    expr_tells laws trait setting here of_pc pc causes labels operand within pc_is are tells each known
expr_tells laws trait setting here of_pc pc causes labels (binary operator left right) within pc_is are tells each
    known =
    as_both
    (or_some (expr_cause trait setting here of_pc causes left) (expr_cause trait setting here of_pc causes right)
    (expr_tells laws trait setting here of_pc pc causes labels left within pc_is are.2 tells each known.0)
    (expr_tells laws trait setting here of_pc pc causes labels right within pc_is are.3 tells each known.1))
    (has_join laws.joined laws.trusted trait (expr_label setting pc labels left) (expr_label setting pc labels right)
    (is_trait setting.principals trait within) are.0 are.1)
expr_tells laws (Keeps owner reader) setting here of_pc pc causes labels (declassified operand label) within pc_is are
    tells each known =
    as_both
    (or_some (cause_where (has (Keeps owner reader) label) (Written here)) of_pc
    (where_some (has (Keeps owner reader) label) (Written here)) tells)
    (in_turn (crossed_keeps laws (join_of label pc) (expr_label setting pc labels operand) owner reader within are.1)
    (has_join laws.joined laws.trusted (Keeps owner reader) label pc within are.0 pc_is))
expr_tells laws (Distrusts principal) setting here of_pc pc causes labels (declassified operand label) within pc_is are
    tells each known =
    as_both
    (expr_tells laws (Distrusts principal) setting here of_pc pc causes labels operand within pc_is are.2 tells
    each known)
    (crossed_distrusts laws (join_of label pc) (expr_label setting pc labels operand) principal within.0 are.1)
expr_tells laws (Keeps owner reader) setting here of_pc pc causes labels (endorsed operand label) within pc_is are tells
    each known =
    as_both
    (expr_tells laws (Keeps owner reader) setting here of_pc pc causes labels operand within pc_is are.2 tells each
    known)
    (crossed_keeps laws (expr_label setting pc labels operand) (join_of label pc) owner reader within are.1)
expr_tells laws (Distrusts principal) setting here of_pc pc causes labels (endorsed operand label) within pc_is are
    tells each known =
    as_both
    (or_some (cause_where (has (Distrusts principal) label) (Written here)) of_pc
    (where_some (has (Distrusts principal) label) (Written here)) tells)
    (in_turn
    (crossed_distrusts laws (expr_label setting pc labels operand) (join_of label pc) principal within.0 are.1)
    (has_join laws.joined laws.trusted (Distrusts principal) label pc within.0 are.0 pc_is))
