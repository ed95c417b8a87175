-- What the execution of a statement tells: the rows of what its labels keep are those of the definition of needs.
use Rattle.std.proofs.Common.{◌≡◌, List, [], ◌∷◌, ◌++◌, flat_map, refl, sym, ap, ap₂, ◌∙◌, subst}
use Rattle.std.specs.Prelude.{Option, Some, None}
use Rattle.std.specs.List.{fold}
use Rattle.std.specs.Option.{option_map}
use Rattle.std.proofs.lemmas.List.Concat.{flat_map-cons}
use Rattle.std.proofs.lemmas.Option.{none-some}
use Rattle.js_base.specs.declared.ids.MethodId.{MethodId}
use Rattle.js_base.specs.declared.ids.StmtId.{StmtId}
use Rattle.js_base.specs.declared.ids.VarId.{VarId}
use Rattle.principals.specs.ActsFor.{IsDeclared}
use Rattle.label_lattice.specs.declared.label.Label.{Label}
use Rattle.label_lattice.specs.Label.{ConfFlows}
use Rattle.label_lattice.specs.Lattice.{empty_label, join_of}
use Rattle.jif_tree.specs.Trees.{ExprTree, number, local, scalar, element, inverted, negated, binary, declassified}
use Rattle.jif_tree.specs.Trees.{endorsed, BlockTree, done, set_local, set_field, set_element, branch, loop, call}
use Rattle.jif_tree.specs.Trees.{give_back, MethodTree}
use Rattle.jif_tree.specs.LabelRules.{part_labels, begin_label, method_at, result_of}
use Rattle.label_reasons.specs.declared.reason.Trait.{Trait}
use Rattle.label_reasons.proofs.TraitTests.{AreTrusted}
use Rattle.label_reasons.proofs.ActsTests.{ActsLaws}
use Rattle.need_labels.specs.Labelled.{Labelled, all_labels}
use Rattle.need_labels.specs.Needs.{StatementUse, block_uses, kept_result, label_of, labels_of}
use Rattle.place_reasons.specs.declared.question.Question.TheVariants.{OfRun, OfUse}
use Rattle.place_reasons.specs.declared.reason.PlaceReason.{PlaceReason}
use Rattle.place_reasons.specs.declared.reason.PlaceReason.TheVariants as row
use Rattle.place_reasons.specs.Firsts.{or_first}
use Rattle.place_reasons.specs.Programs.{told_beside, labels_of_use, IsUseOver}
use Rattle.place_reasons.specs.Questions.{answer_at}
use Rattle.place_reasons.specs.Reasons.{Site, pc_at, label_at, pair_at, own_use, used_in, used_by, id_of}
use Rattle.place_reasons.specs.Reasons.{exprs_of, kept_row, call_row, kept_rows}
use Rattle.place_reasons.proofs.Firsts.{or_none, first_in_two, first_pushed}
use Rattle.place_reasons.proofs.PairLaws.{or_so, or_nones, pair_due, pair_denies}
use Rattle.place_reasons.proofs.FieldLaws.{LabelLaws, first_told, fold_flows, fold_below, fold_denies}

-- ---- expressions

abbrev told_at : Site → List Label → Option Trait
told_at site labels = first_told site.principals site.host labels

abbrev parts_at : Site → StmtId → ExprTree → List Label
parts_at site here value = part_labels site.setting (pc_at site here) (all_labels site.labelled) value

expr_used : (site : Site) (here : StmtId) (value : ExprTree) →
    used_in site here value ≡ told_at site (parts_at site here value)
unfolding own_use
expr_used site here (number value) = sym (or_none (pair_at site (label_at site here (number value))))
expr_used site here (local x) = sym (or_none (pair_at site (label_at site here (local x))))
expr_used site here (scalar field) = sym (or_none (pair_at site (label_at site here (scalar field))))
expr_used site here (element field index) =
    ap (λ inside. or_first inside (own_use site here (element field index))) (expr_used site here index)
    ∙ sym (first_pushed (pair_at site) (parts_at site here index) (label_at site here (element field index)))
expr_used site here (inverted operand) =
    ap (λ inside. or_first inside (own_use site here (inverted operand))) (expr_used site here operand)
    ∙ sym (first_pushed (pair_at site) (parts_at site here operand) (label_at site here (inverted operand)))
expr_used site here (negated operand) =
    ap (λ inside. or_first inside (own_use site here (negated operand))) (expr_used site here operand)
    ∙ sym (first_pushed (pair_at site) (parts_at site here operand) (label_at site here (negated operand)))
expr_used site here (binary operator left right) =
    ap (λ inside. or_first inside (own_use site here (binary operator left right)))
    (ap₂ or_first (expr_used site here left) (expr_used site here right)
    ∙ sym (first_in_two (pair_at site) (parts_at site here left) (parts_at site here right)))
    ∙ sym (first_pushed (pair_at site) (parts_at site here left ++ parts_at site here right)
    (label_at site here (binary operator left right)))
expr_used site here (declassified operand label) =
    ap (λ inside. or_first inside (own_use site here (declassified operand label))) (expr_used site here operand)
    ∙ sym (first_pushed (pair_at site) (parts_at site here operand) (label_at site here (declassified operand label)))
expr_used site here (endorsed operand label) =
    ap (λ inside. or_first inside (own_use site here (endorsed operand label))) (expr_used site here operand)
    ∙ sym (first_pushed (pair_at site) (parts_at site here operand) (label_at site here (endorsed operand label)))

pub exprs_used : (site : Site) (here : StmtId) (values : List ExprTree) →
    used_by site here values ≡ told_at site (flat_map (parts_at site here) values)
exprs_used site here [] = refl
exprs_used site here (value ∷ values) =
    ap₂ or_first (expr_used site here value) (exprs_used site here values)
    ∙ sym (first_in_two (pair_at site) (parts_at site here value) (flat_map (parts_at site here) values))
    ∙ sym (ap (told_at site) (flat_map-cons (parts_at site here) value values))

-- ---- calls

-- a row of a pair, where there is one
pub data IsRowOf (found : Option Trait) (told : Option PlaceReason) : Type 0 where
  some : (pair : Trait) (reason : PlaceReason) → found ≡ Some pair → told ≡ Some reason → IsRowOf found told
  none : found ≡ None → told ≡ None → IsRowOf found told

mapped_row : (f : Trait → PlaceReason) (found : Option Trait) → IsRowOf found (option_map f found)
mapped_row f None = none refl refl
mapped_row f (Some pair) = some pair (f pair) refl refl

or_row : (found other : Option Trait) (told rest : Option PlaceReason) → IsRowOf found told → IsRowOf other rest →
    IsRowOf (or_first found other) (or_first told rest)
or_row found other told rest (some pair reason is also) second =
    some pair reason (ap (λ one. or_first one other) is) (ap (λ one. or_first one rest) also)
or_row found other told rest (none is also) (some pair reason told_so too) =
    some pair reason (ap (λ one. or_first one other) is ∙ told_so) (ap (λ one. or_first one rest) also ∙ too)
or_row found other told rest (none is also) (none untold neither) =
    none (ap (λ one. or_first one other) is ∙ untold) (ap (λ one. or_first one rest) also ∙ neither)

abbrev kept_labels : Labelled → Option VarId → Option VarId → List Label
kept_labels labelled None kept = []
kept_labels labelled (Some into) kept = labels_of labelled kept

row_at : (told : Option PlaceReason) (found other : Option Trait) → found ≡ other → IsRowOf found told →
    IsRowOf other told
row_at told found other same is = subst (λ (one : Option Trait). IsRowOf one told) same is

kept_is : (site : Site) (method : MethodId) (into kept : Option VarId) →
    IsRowOf (told_at site (kept_labels site.labelled into kept)) (kept_row site method into kept)
kept_is site method None kept = none refl refl
kept_is site method (Some into) None = none refl refl
kept_is site method (Some into) (Some result) =
    row_at _ (pair_at site (label_of site.labelled result)) _ (sym (or_none (pair_at site (label_of site.labelled result))))
    (mapped_row (λ pair. row.CallGives pair method) (pair_at site (label_of site.labelled result)))

kept_result_is : (labelled : Labelled) (method : Option MethodTree) (into : Option VarId) →
    kept_labels labelled into (result_of method) ≡ kept_result labelled method into
kept_result_is labelled method None = refl
kept_result_is labelled method (Some into) = refl

beside_is : (site : Site) (block : BlockTree) →
    IsRowOf (told_at site (told_beside site.labelled block)) (call_row site block)
beside_is site done = none refl refl
beside_is site (set_local heading x value rest) = none refl refl
beside_is site (set_field heading field value rest) = none refl refl
beside_is site (set_element heading field index value rest) = none refl refl
beside_is site (branch heading guard first second rest) = none refl refl
beside_is site (loop heading guard body rest) = none refl refl
beside_is site (call heading place method arguments into rest) =
    let called = method_at site.labelled.program method in
    or_row (pair_at site (begin_label called)) (told_at site (kept_result site.labelled called into)) _ _
    (mapped_row (λ pair. row.CallBegins pair method) (pair_at site (begin_label called)))
    (row_at _ _ _ (ap (told_at site) (kept_result_is site.labelled called into))
    (kept_is site method into (result_of called)))
beside_is site (give_back heading value rest) = none refl refl

-- ---- statements

abbrev first_used : List StatementUse → Label
first_used [] = empty_label
first_used (one ∷ uses) = one.used

abbrev first_use : List StatementUse → Option StatementUse
first_use [] = None
first_use (one ∷ uses) = Some one

-- what the first statement of a block tells is the join of these labels
used_is : (site : Site) (block : BlockTree) (one : StatementUse) (inside : List StatementUse) →
    block_uses site.labelled site.setting block ≡ one ∷ inside →
    fold join_of (pc_at site (id_of block)) (labels_of_use site.labelled site.setting block) ≡ one.used
used_is site done one inside is = absurd (none-some one (ap first_use is))
used_is site (set_local heading x value rest) one inside is = ap first_used is
used_is site (set_field heading field value rest) one inside is = ap first_used is
used_is site (set_element heading field index value rest) one inside is = ap first_used is
used_is site (branch heading guard first second rest) one inside is = ap first_used is
used_is site (loop heading guard body rest) one inside is = ap first_used is
used_is site (call heading place method arguments into rest) one inside is = ap first_used is
used_is site (give_back heading value rest) one inside is = ap first_used is

rows_are : (site : Site) (block : BlockTree) →
    IsRowOf (or_first (pair_at site (pc_at site (id_of block)))
    (told_at site (labels_of_use site.labelled site.setting block))) (kept_rows site block)
rows_are site block =
    let here = id_of block in
    let parts = flat_map (parts_at site here) (exprs_of block) in
    or_row (pair_at site (pc_at site here)) (told_at site (labels_of_use site.labelled site.setting block)) _ _
    (mapped_row (λ pair. row.Runs pair (answer_at OfRun site.principals site.labelled.program here pair))
    (pair_at site (pc_at site here)))
    (row_at _ _ _ (ap (λ used. or_first used (told_at site (told_beside site.labelled block)))
    (exprs_used site here (exprs_of block))
    ∙ sym (first_in_two (pair_at site) parts (told_beside site.labelled block)))
    (or_row (used_by site here (exprs_of block)) (told_at site (told_beside site.labelled block)) _ _
    (mapped_row (λ pair. row.Uses pair (answer_at OfUse site.principals site.labelled.program here pair))
    (used_by site here (exprs_of block))) (beside_is site block)))

none_of : (found : Option Trait) (told : Option PlaceReason) → IsRowOf found told → told ≡ None → found ≡ None
none_of found told (some pair reason is also) untold = absurd (none-some reason (sym untold ∙ also))
none_of found told (none is also) untold = is

some_of : (found : Option Trait) (told : Option PlaceReason) (reason : PlaceReason) → IsRowOf found told →
    told ≡ Some reason → (pair : Trait) × (found ≡ Some pair)
some_of found told reason (some pair other is also) told_so = (pair, is)
some_of found told reason (none is also) told_so = absurd (none-some reason (sym also ∙ told_so))

pub kept_due : AreTrusted → (site : Site) → ActsLaws site.principals → LabelLaws site.principals → (block : BlockTree)
    (one : StatementUse) (inside : List StatementUse) →
    block_uses site.labelled site.setting block ≡ one ∷ inside → IsUseOver site.principals site.labelled site.setting block →
    kept_rows site block ≡ None → ConfFlows one.used site.host
kept_due tells site acts laws block one inside is over untold =
    let both = or_nones (pair_at site (pc_at site (id_of block)))
    (told_at site (labels_of_use site.labelled site.setting block)) (none_of _ (kept_rows site block) (rows_are site block) untold)
    in
    subst (λ (label : Label). ConfFlows label site.host) (used_is site block one inside is)
    (fold_flows site.principals laws tells acts site.host (pc_at site (id_of block))
    (labels_of_use site.labelled site.setting block) over.pc over.told
    (pair_due tells site.principals acts (pc_at site (id_of block)) site.host over.pc both.0) both.1)

pub kept_denies : AreTrusted → (site : Site) → LabelLaws site.principals → IsDeclared site.principals →
    (block : BlockTree) (one : StatementUse) (inside : List StatementUse) (reason : PlaceReason) →
    block_uses site.labelled site.setting block ≡ one ∷ inside → IsUseOver site.principals site.labelled site.setting block →
    kept_rows site block ≡ Some reason → ¬ ConfFlows one.used site.host
kept_denies tells site laws declared block one inside reason is over told_so flows =
    let labels = labels_of_use site.labelled site.setting block in
    let pc = pc_at site (id_of block) in
    let whole = subst (λ (label : Label). ConfFlows label site.host) (sym (used_is site block one inside is)) flows in
    let pair = some_of _ (kept_rows site block) reason (rows_are site block) told_so in
    or_so (λ _. ⊥) (pair_at site pc) (told_at site labels) pair.0
    (λ first here. pair_denies site.principals pc site.host first declared here
    (fold_below site.principals laws site.host pc labels over.pc over.told whole))
    (λ later there. fold_denies site.principals laws declared site.host pc labels later over.pc over.told there whole)
    pair.1
