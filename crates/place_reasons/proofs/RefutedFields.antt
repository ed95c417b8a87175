-- What the rows of fields claim is so.
use Rattle.std.proofs.Common.{◌≡◌, List, [], ◌∷◌, ◌++◌, refl, sym, ap, ap₂, ◌∙◌, subst}
use Rattle.std.specs.Prelude.{Any, nat_eq, Option, Some}
use Rattle.std.specs.Option.{option_map}
use Rattle.std.proofs.lemmas.Bool.{eqb-true}
use Rattle.std.proofs.lemmas.Option.{none-some}
use Rattle.js_base.specs.declared.ids.FieldId.{FieldId}
use Rattle.js_base.specs.declared.ids.StmtId.{StmtId}
use Rattle.principals.specs.ActsFor.{Declared, IsDeclared}
use Rattle.label_lattice.specs.declared.label.Label.{Label}
use Rattle.jif_tree.specs.Trees.{ExprTree, number, local, scalar, element, inverted, negated, binary, declassified}
use Rattle.jif_tree.specs.Trees.{endorsed, BlockTree, done, set_local, set_field, set_element, branch, loop, call}
use Rattle.jif_tree.specs.Trees.{give_back, MethodTree}
use Rattle.jif_tree.specs.LabelRules.{field_label}
use Rattle.label_reasons.specs.Traits.{TraitIsLacking}
use Rattle.label_reasons.proofs.TraitTests.{AreTrusted}
use Rattle.need_labels.specs.Labelled.{Labelled}
use Rattle.need_labels.proofs.Somewhere.{any_here, any_left, any_right}
use Rattle.place_reasons.specs.declared.reason.PlaceReason.{PlaceReason}
use Rattle.place_reasons.specs.declared.reason.PlaceReason.TheVariants as row
use Rattle.place_reasons.specs.declared.told.Told.{Told}
use Rattle.place_reasons.specs.declared.told.Told.TheVariants.{Read, Index}
use Rattle.place_reasons.specs.Firsts.{or_first, first_some}
use Rattle.place_reasons.specs.Reasons.{Site, site_of, id_of, exprs_of, first_pair, first_untrusting, pc_at, label_at}
use Rattle.place_reasons.specs.Reasons.{pair_at, run_told, index_told, told_in, own_told, block_told, method_told}
use Rattle.place_reasons.specs.Reasons.{told_reason, own_row, told_row, trust_row, field_reason}
use Rattle.place_reasons.specs.Refuted.{statements_in, fields_in, elements_in, ReadsField, ReadsHiddenElement}
use Rattle.place_reasons.specs.Refuted.{RefutesField}
use Rattle.place_reasons.proofs.Firsts.{or_assoc, first_in_two}
use Rattle.place_reasons.proofs.PairLaws.{or_so, trust_true}
use Rattle.place_reasons.proofs.FirstFound.{any_weaker, first_in, if_found}
use Rattle.place_reasons.proofs.StatementLaws.{map_found}
use Rattle.place_reasons.proofs.RefutedStatements.{fails_first}

-- ---- expressions

-- what is told of reads of these fields and elements
abbrev IsToldOf : Site → FieldId → StmtId → List FieldId → List (FieldId × ExprTree) → Told → Type 0
IsToldOf site wanted here fields elements (Read pair at) =
    (here ≡ at) × TraitIsLacking pair (pc_at site at) site.host × Any (λ read. read.0 ≡ wanted.0) fields
IsToldOf site wanted here fields elements (Index pair at) =
    (here ≡ at)
    × Any (λ read. (read.0.0 ≡ wanted.0) × TraitIsLacking pair (label_at site at read.1) site.host) elements

of_left : (site : Site) (wanted : FieldId) (here : StmtId) (fields more : List FieldId)
    (elements others : List (FieldId × ExprTree)) (told : Told) → IsToldOf site wanted here fields elements told →
    IsToldOf site wanted here (fields ++ more) (elements ++ others) told
of_left site wanted here fields more elements others (Read pair at) is =
    (is.0, is.1, any_left (λ read. read.0 ≡ wanted.0) fields more is.2)
of_left site wanted here fields more elements others (Index pair at) is = (
  is.0,
  any_left (λ read. (read.0.0 ≡ wanted.0) × TraitIsLacking pair (label_at site at read.1) site.host) elements others
      is.1,
)

of_right : (site : Site) (wanted : FieldId) (here : StmtId) (fields more : List FieldId)
    (elements others : List (FieldId × ExprTree)) (told : Told) → IsToldOf site wanted here more others told →
    IsToldOf site wanted here (fields ++ more) (elements ++ others) told
of_right site wanted here fields more elements others (Read pair at) is =
    (is.0, is.1, any_right (λ read. read.0 ≡ wanted.0) fields more is.2)
of_right site wanted here fields more elements others (Index pair at) is = (
  is.0,
  any_right (λ read. (read.0.0 ≡ wanted.0) × TraitIsLacking pair (label_at site at read.1) site.host) elements others
      is.1,
)

run_so : (site : Site) → IsDeclared site.principals → (wanted : FieldId) (here : StmtId) (field : FieldId)
    (elements : List (FieldId × ExprTree)) (told : Told) → run_told site wanted here field ≡ Some told →
    IsToldOf site wanted here (field ∷ []) elements told
run_so site declared wanted here field elements told is =
    let both = if_found (nat_eq field.0 wanted.0) (option_map (λ pair. Read pair here) (pair_at site (pc_at site here)))
    told is in
    let made = map_found (λ pair. Read pair here) (pair_at site (pc_at site here)) told both.1 in
    subst (IsToldOf site wanted here (field ∷ []) elements) made.2 (
      refl,
      fails_first site.principals declared site.host (pc_at site here) made.0 made.1,
      any_here (λ read. read.0 ≡ wanted.0) field [] (eqb-true field.0 wanted.0 both.0),
    )

index_so : (site : Site) → IsDeclared site.principals → (wanted : FieldId) (here : StmtId) (field : FieldId)
    (index : ExprTree) (fields : List FieldId) (told : Told) → index_told site wanted here field index ≡ Some told →
    IsToldOf site wanted here fields ((field, index) ∷ []) told
index_so site declared wanted here field index fields told is =
    let both = if_found (nat_eq field.0 wanted.0)
    (option_map (λ pair. Index pair here) (pair_at site (label_at site here index))) told is in
    let made = map_found (λ pair. Index pair here) (pair_at site (label_at site here index)) told both.1 in
    subst (IsToldOf site wanted here fields ((field, index) ∷ [])) made.2 (
      refl,
      any_here (λ read. (read.0.0 ≡ wanted.0) × TraitIsLacking made.0 (label_at site here read.1) site.host)
          (field, index) [] (
            eqb-true field.0 wanted.0 both.0,
            fails_first site.principals declared site.host (label_at site here index) made.0 made.1,
          ),
    )

expr_so : (site : Site) → IsDeclared site.principals → (wanted : FieldId) (here : StmtId) (value : ExprTree)
    (told : Told) → told_in site wanted here value ≡ Some told →
    IsToldOf site wanted here (fields_in value) (elements_in value) told
expr_so site declared wanted here (number value) told is = absurd (none-some told is)
expr_so site declared wanted here (local x) told is = absurd (none-some told is)
expr_so site declared wanted here (scalar field) told is = run_so site declared wanted here field [] told is
expr_so site declared wanted here (element field index) told is =
    let P : Told → Type 0 =
    IsToldOf site wanted here (fields_in index ++ field ∷ []) (elements_in index ++ (field, index) ∷ []) in
    or_so P (told_in site wanted here index)
    (or_first (run_told site wanted here field) (index_told site wanted here field index)) told
    (λ z inner. of_left site wanted here (fields_in index) (field ∷ []) (elements_in index) ((field, index) ∷ []) z
    (expr_so site declared wanted here index z inner))
    (λ y outer. of_right site wanted here (fields_in index) (field ∷ []) (elements_in index) ((field, index) ∷ []) y
    (or_so (IsToldOf site wanted here (field ∷ []) ((field, index) ∷ [])) (run_told site wanted here field)
    (index_told site wanted here field index) y
    (λ z run. run_so site declared wanted here field ((field, index) ∷ []) z run)
    (λ z which. index_so site declared wanted here field index (field ∷ []) z which) outer)) is
expr_so site declared wanted here (inverted operand) told is = expr_so site declared wanted here operand told is
expr_so site declared wanted here (negated operand) told is = expr_so site declared wanted here operand told is
expr_so site declared wanted here (binary operator left right) told is =
    or_so (IsToldOf site wanted here (fields_in left ++ fields_in right) (elements_in left ++ elements_in right))
    (told_in site wanted here left) (told_in site wanted here right) told
    (λ z one. of_left site wanted here (fields_in left) (fields_in right) (elements_in left) (elements_in right) z
    (expr_so site declared wanted here left z one))
    (λ z other. of_right site wanted here (fields_in left) (fields_in right) (elements_in left) (elements_in right) z
    (expr_so site declared wanted here right z other)) is
expr_so site declared wanted here (declassified operand label) told is =
    expr_so site declared wanted here operand told is
expr_so site declared wanted here (endorsed operand label) told is = expr_so site declared wanted here operand told is

-- ---- statements

-- what is told of the own reads of a statement
abbrev IsToldBy : Site → FieldId → BlockTree → Told → Type 0
IsToldBy site wanted one (Read pair at) = (id_of one ≡ at) × TraitIsLacking pair (pc_at site at) site.host
    × ReadsField wanted one
IsToldBy site wanted one (Index pair at) =
    (id_of one ≡ at) × ReadsHiddenElement site.labelled site.host pair wanted site.setting one

own_so : (site : Site) → IsDeclared site.principals → (wanted : FieldId) (one : BlockTree) (told : Told) →
    own_told site wanted one ≡ Some told → IsToldBy site wanted one told
own_so site declared wanted one told is =
    by told (first_in (told_in site wanted (id_of one)) (exprs_of one) told is)
  where
    by : (told : Told) → Any (λ value. told_in site wanted (id_of one) value ≡ Some told) (exprs_of one) →
        IsToldBy site wanted one told
    by (Read pair at) (k, value, lt, read, made) =
        let so = expr_so site declared wanted (id_of one) value (Read pair at) made in
        (so.0, so.1, (k, value, lt, read, so.2))
    by (Index pair at) (k, value, lt, read, made) =
        let so = expr_so site declared wanted (id_of one) value (Index pair at) made in
        let P : StmtId → Type 0 = λ here. Any (λ one.
        (one.0.0 ≡ wanted.0) × TraitIsLacking pair (label_at site here one.1) site.host) (elements_in value) in
        (so.0, (k, value, lt, read, subst P (sym so.0) so.1))

-- a search of a block is one of its statements, one by one
block_is : (site : Site) (wanted : FieldId) (block : BlockTree) →
    block_told site wanted block ≡ first_some (own_told site wanted) (statements_in block)
block_is site wanted done = refl
block_is site wanted (set_local heading x value rest) =
    ap (or_first (own_told site wanted (set_local heading x value rest))) (block_is site wanted rest)
block_is site wanted (set_field heading field value rest) =
    ap (or_first (own_told site wanted (set_field heading field value rest))) (block_is site wanted rest)
block_is site wanted (set_element heading field index value rest) =
    ap (or_first (own_told site wanted (set_element heading field index value rest))) (block_is site wanted rest)
block_is site wanted (branch heading guard first second rest) =
    let own : BlockTree → Option Told = own_told site wanted in
    let found : BlockTree → Option Told = λ block. first_some own (statements_in block) in
    ap (or_first (own (branch heading guard first second rest)))
    (ap₂ or_first (block_is site wanted first)
    (ap₂ or_first (block_is site wanted second) (block_is site wanted rest))
    ∙ sym (or_assoc (found first) (found second) (found rest))
    ∙ ap (λ both. or_first both (found rest)) (sym (first_in_two own (statements_in first) (statements_in second)))
    ∙ sym (first_in_two own (statements_in first ++ statements_in second) (statements_in rest)))
block_is site wanted (loop heading guard body rest) =
    let own : BlockTree → Option Told = own_told site wanted in
    ap (or_first (own (loop heading guard body rest)))
    (ap₂ or_first (block_is site wanted body) (block_is site wanted rest)
    ∙ sym (first_in_two own (statements_in body) (statements_in rest)))
block_is site wanted (call heading place method arguments into rest) =
    ap (or_first (own_told site wanted (call heading place method arguments into rest))) (block_is site wanted rest)
block_is site wanted (give_back heading value rest) =
    ap (or_first (own_told site wanted (give_back heading value rest))) (block_is site wanted rest)

method_so : (principals : Declared) (labelled : Labelled) (host : Label) → IsDeclared principals → (wanted : FieldId)
    (method : MethodTree) (told : Told) → method_told principals labelled host wanted method ≡ Some told →
    Any (λ one. IsToldBy (site_of principals labelled host method) wanted one told) (statements_in method.body)
method_so principals labelled host declared wanted method told is =
    let site : Site = site_of principals labelled host method in
    any_weaker (λ one. own_told site wanted one ≡ Some told) (λ one. IsToldBy site wanted one told)
    (statements_in method.body) (λ one made. own_so site declared wanted one told made)
    (first_in (own_told site wanted) (statements_in method.body) told (sym (block_is site wanted method.body) ∙ is))

-- ---- fields

told_refuted : (principals : Declared) (labelled : Labelled) (host : Label) → IsDeclared principals →
    (field : FieldId) (told : Told) →
    Any (λ method. method_told principals labelled host field method ≡ Some told) labelled.program.methods →
    RefutesField principals labelled host field (told_reason principals labelled.program field told)
told_refuted principals labelled host declared field (Read pair at) (k, method, lt, read, is) =
    let (n, one, within, there, so) = method_so principals labelled host declared field method (Read pair at) is in
    (so.1, (k, method, lt, read, (n, one, within, there, (so.0, so.2))))
told_refuted principals labelled host declared field (Index pair at) (k, method, lt, read, is) =
    (k, method, lt, read, method_so principals labelled host declared field method (Index pair at) is)

pub field_refuted : AreTrusted → (principals : Declared) (labelled : Labelled) (host : Label) (field : FieldId)
    (reason : PlaceReason) → IsDeclared principals → field_reason principals labelled host field ≡ Some reason →
    RefutesField principals labelled host field reason
field_refuted tells principals labelled host field reason declared is =
    let P : PlaceReason → Type 0 = RefutesField principals labelled host field in
    let label : Label = field_label labelled.program field in
    or_so P (own_row principals labelled host field)
    (or_first (told_row principals labelled host field) (trust_row principals labelled host field)) reason
    (λ z one.
    let made = map_found (λ pair. row.Own pair) (first_pair principals label host) z one in
    subst P made.2 (fails_first principals declared host label made.0 made.1))
    (λ y later. or_so P (told_row principals labelled host field) (trust_row principals labelled host field) y
    (λ z one.
    let made = map_found (told_reason principals labelled.program field)
    (first_some (method_told principals labelled host field) labelled.program.methods) z one in
    subst P made.2 (told_refuted principals labelled host declared field made.0
    (first_in (method_told principals labelled host field) labelled.program.methods made.0 made.1)))
    (λ z one.
    let made = map_found (λ principal. row.Untrusted principal) (first_untrusting principals host label) z one in
    let says = trust_true tells principals host label made.0 made.1 in
    subst P made.2 (says.1, says.2)) later) is
