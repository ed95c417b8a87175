-- The causes of variables follow their labels along a block.
use Rattle.std.proofs.Common.{◌↔◌, ◌∙◌, inl, inr, ◌≡◌, ◌≢◌, ℕ, List, refl, sym, subst, ap, arith}
use Rattle.std.specs.Prelude.{Option, Some, None, IsSome, slice_get, slice_set}
use Rattle.std.proofs.lemmas.Bool.Decides.{eqb_tells}
use Rattle.std.proofs.lemmas.List.{get_or-set_same, get_or-set_other, length-set}
use Rattle.std.proofs.lemmas.Option.{slice_get_cases, slice_get-get_or, slice_get_past, slice_get_within}
use Rattle.js_base.specs.declared.ids.StmtId.{StmtId}
use Rattle.js_base.specs.declared.ids.VarId.{VarId}
use Rattle.label_lattice.specs.declared.label.Label.{Label}
use Rattle.label_lattice.specs.Label.{IsLabel}
use Rattle.label_lattice.specs.Lattice.{join_of}
use Rattle.jif_tree.specs.Trees.{ExprTree, BlockTree, done, set_local, set_field, set_element, branch, loop, call}
use Rattle.jif_tree.specs.Trees.{give_back}
use Rattle.jif_tree.specs.LabelRules.{MethodSetting, VariableLabels, expr_label}
use Rattle.jif_tree.specs.LabelRules.{labels_after, labels_after_assignment, guarded}
use Rattle.jif_tree.specs.ValueLabels.{IsExprLabelled, AreValuesLabelled}
use Rattle.label_reasons.specs.declared.reason.Trait.{Trait}
use Rattle.label_reasons.specs.declared.reason.Via.{Via}
use Rattle.label_reasons.specs.declared.reason.Via.TheVariants.{ByLocal, ByGuard}
use Rattle.label_reasons.specs.declared.reason.Cause.{Cause}
use Rattle.label_reasons.specs.Traits.{IsDeclaredTrait}
use Rattle.label_reasons.specs.Causes.{or_else, through, with_cause, expr_cause, guarded_cause, causes_after_assignment}
use Rattle.label_reasons.specs.Causes.{causes_after, TellsCause, TellsVariables, IsMadeOfLabels, IsBlockOfLabels}
use Rattle.label_reasons.proofs.TraitTests.{has_join}
use Rattle.label_reasons.proofs.ExpressionCauses.{LabelLaws, as_both, or_some, is_trait, expr_tells}

-- ---- a list with one item set

pub set_there : {X : Type 0} (xs : List X) (place : ℕ) (old new : X) → slice_get xs place ≡ Some old →
    slice_get (slice_set xs place new) place ≡ Some new
set_there xs place old new there =
    let within = slice_get_within xs place old there in
    slice_get-get_or (slice_set xs place new) place new (omega (arith, within, length-set xs place new))
    ∙ ap Some (get_or-set_same xs place new new within)

pub set_elsewhere : {X : Type 0} (xs : List X) (place other : ℕ) (new : X) → other ≢ place →
    slice_get (slice_set xs place new) other ≡ slice_get xs other
set_elsewhere xs place other new apart = elim (slice_get_cases (slice_set xs place new) other).1 [
  | inl (y, within, is, read) ↦
      is ∙ ap Some (sym read ∙ get_or-set_other xs place other new y apart)
      ∙ sym (slice_get-get_or xs other y (omega (arith, within, length-set xs place new)))
  | inr (past, none) ↦ none ∙ sym (slice_get_past xs other (omega (arith, past, length-set xs place new)))
]

-- ---- assignments and guards

through_some : {P : Type 0} (via : Via) (cause : Option Cause) → (IsSome cause ↔ P) → IsSome (through via cause) ↔ P
through_some via None both = both
through_some via (Some cause) both = (λ is. both.0 refl, λ p. refl)

set_tells : (trait : Trait) (labels : VariableLabels) (causes : VarId → Option Cause) (x : VarId) (via : Via)
    (cause : Option Cause) (label : Label) → slice_get labels x.0 ≡ Some None → TellsVariables trait causes labels →
    TellsCause trait cause label →
    TellsVariables trait (with_cause causes x (through via cause)) (slice_set labels x.0 (Some label))
set_tells trait labels causes x via cause label found each tells y labelled = elim (eqb_tells y.0 x.0) [
  | inl same ↦
      let P : ℕ → Type 0 = λ place. slice_get (slice_set labels x.0 (Some label)) place ≡ Some (Some label) in
      let there : P y.0 = subst P (sym same.1) (set_there labels x.0 None (Some label) found) in
      rw same.0 (rw there (through_some via cause tells))
  | inr apart ↦
      let elsewhere : slice_get (slice_set labels x.0 (Some label)) y.0 ≡ slice_get labels y.0 =
      set_elsewhere labels x.0 y.0 (Some label) apart.1 in
      rw apart.0 (rw elsewhere (each y (labelled.0, sym elsewhere ∙ labelled.1)))
]

pub assignment_tells : (trait : Trait) (labels : VariableLabels) (causes : VarId → Option Cause) (x : VarId)
    (here : StmtId)
    (cause : Option Cause) (label : Label) → TellsVariables trait causes labels → TellsCause trait cause label →
    TellsVariables trait (causes_after_assignment labels causes x here cause) (labels_after_assignment labels x label)
assignment_tells trait labels causes x here cause label each tells = by (slice_get labels x.0) refl
  where
    by : (found : Option (Option Label)) → slice_get labels x.0 ≡ found →
        TellsVariables trait (causes_after_assignment labels causes x here cause)
        (labels_after_assignment labels x label)
    by None is = rw is each
    by (Some (Some declared)) is = rw is each
    by (Some None) is = rw is (set_tells trait labels causes x (ByLocal x here) cause label is each tells)

pub guarded_tells : LabelLaws → (trait : Trait) (setting : MethodSetting) (here : StmtId) (of_pc : Option Cause)
    (pc : Label) (causes : VarId → Option Cause) (labels : VariableLabels) (guard : ExprTree) →
    IsDeclaredTrait setting.principals trait → IsLabel pc → IsMadeOfLabels setting pc labels guard →
    IsLabel (expr_label setting pc labels guard) → TellsCause trait of_pc pc → TellsVariables trait causes labels →
    IsExprLabelled labels guard →
    TellsCause trait (guarded_cause trait setting here of_pc causes guard) (guarded setting pc labels guard)
guarded_tells laws trait setting here of_pc pc causes labels guard within pc_is are is tells each known =
    as_both
    (or_some of_pc (through (ByGuard here) (expr_cause trait setting here of_pc causes guard)) tells
    (through_some (ByGuard here) (expr_cause trait setting here of_pc causes guard)
    (expr_tells laws trait setting here of_pc pc causes labels guard within pc_is are tells each known)))
    (has_join laws.joined laws.trusted trait pc (expr_label setting pc labels guard)
    (is_trait setting.principals trait within) pc_is is)

-- ---- blocks

pub after_tells : LabelLaws → (trait : Trait) (setting : MethodSetting) (pc : Label) (of_pc : Option Cause)
    (labels : VariableLabels) (causes : VarId → Option Cause) (block : BlockTree) →
    IsDeclaredTrait setting.principals trait → IsLabel pc → IsBlockOfLabels setting pc labels block →
    AreValuesLabelled setting pc labels block → TellsCause trait of_pc pc → TellsVariables trait causes labels →
    TellsVariables trait (causes_after trait setting pc of_pc labels causes block)
    (labels_after setting pc labels block)
after_tells laws trait setting pc of_pc labels causes done within pc_is are known tells each = each
after_tells laws trait setting pc of_pc labels causes (set_local heading x value rest) within pc_is are known tells
    each =
    let cause = or_else (expr_cause trait setting heading.id of_pc causes value) of_pc in
    let label = join_of (expr_label setting pc labels value) pc in
    let joined : TellsCause trait cause label =
    as_both
    (or_some (expr_cause trait setting heading.id of_pc causes value) of_pc
    (expr_tells laws trait setting heading.id of_pc pc causes labels value within pc_is are.0 tells each known.0) tells)
    (has_join laws.joined laws.trusted trait (expr_label setting pc labels value) pc
    (is_trait setting.principals trait within) are.1 pc_is) in
    after_tells laws trait setting pc of_pc (labels_after_assignment labels x label)
    (causes_after_assignment labels causes x heading.id cause) rest within pc_is are.2 known.1 tells
    (assignment_tells trait labels causes x heading.id cause label each joined)
after_tells laws trait setting pc of_pc labels causes (set_field heading field value rest) within pc_is are known tells
    each = after_tells laws trait setting pc of_pc labels causes rest within pc_is are known.1 tells each
after_tells laws trait setting pc of_pc labels causes (set_element heading field index value rest) within pc_is are
    known tells each = after_tells laws trait setting pc of_pc labels causes rest within pc_is are known.2 tells each
after_tells laws trait setting pc of_pc labels causes (branch heading guard first second rest) within pc_is are known
    tells each =
    let inside = guarded setting pc labels guard in
    let of_inside = guarded_cause trait setting heading.id of_pc causes guard in
    let between = labels_after setting inside labels first in
    let causes_between = causes_after trait setting inside of_inside labels causes first in
    let tells_inside =
    guarded_tells laws trait setting heading.id of_pc pc causes labels guard within pc_is are.0 are.1 tells each
    known.0 in
    after_tells laws trait setting pc of_pc (labels_after setting inside between second)
    (causes_after trait setting inside of_inside between causes_between second) rest within pc_is are.5 known.3 tells
    (after_tells laws trait setting inside of_inside between causes_between second within are.2 are.4 known.2
    tells_inside
    (after_tells laws trait setting inside of_inside labels causes first within are.2 are.3 known.1 tells_inside each))
after_tells laws trait setting pc of_pc labels causes (loop heading guard body rest) within pc_is are known tells each =
    let inside = guarded setting pc labels guard in
    let of_inside = guarded_cause trait setting heading.id of_pc causes guard in
    let tells_inside =
    guarded_tells laws trait setting heading.id of_pc pc causes labels guard within pc_is are.0 are.1 tells each
    known.0 in
    after_tells laws trait setting pc of_pc (labels_after setting inside labels body)
    (causes_after trait setting inside of_inside labels causes body) rest within pc_is are.4 known.2 tells
    (after_tells laws trait setting inside of_inside labels causes body within are.2 are.3 known.1 tells_inside each)
after_tells laws trait setting pc of_pc labels causes (call heading site method arguments into rest) within pc_is are
    known tells each = after_tells laws trait setting pc of_pc labels causes rest within pc_is are known.1 tells each
after_tells laws trait setting pc of_pc labels causes (give_back heading value rest) within pc_is are known tells each =
    after_tells laws trait setting pc of_pc labels causes rest within pc_is are known.1 tells each
