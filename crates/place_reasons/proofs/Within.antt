-- What is told is a pair that has a place in labels.
use Rattle.std.proofs.Common.{◌≡◌, Bool, true, false, List, [], ◌∷◌, refl, sym, subst}
use Rattle.std.specs.Prelude.{⊤, if◌then◌else◌, Option, Some, None}
use Rattle.std.specs.Option.{option_map}
use Rattle.js_base.specs.declared.ids.FieldId.{FieldId}
use Rattle.js_base.specs.declared.ids.StmtId.{StmtId}
use Rattle.principals.specs.ActsFor.{Declared, IsDeclared}
use Rattle.label_lattice.specs.declared.label.Label.{Label}
use Rattle.jif_tree.specs.declared.program.Method.{Method}
use Rattle.jif_tree.specs.Trees.{ExprTree, number, local, scalar, element, inverted, negated, binary, declassified}
use Rattle.jif_tree.specs.Trees.{endorsed, BlockTree, done, set_local, set_field, set_element, branch, loop, call}
use Rattle.jif_tree.specs.Trees.{give_back, method_tree}
use Rattle.label_reasons.specs.declared.reason.Trait.{Trait}
use Rattle.label_reasons.specs.Traits.{IsTrait}
use Rattle.need_labels.specs.Labelled.{Labelled}
use Rattle.place_reasons.specs.declared.told.Told.{Told}
use Rattle.place_reasons.specs.declared.told.Told.TheVariants.{Read, Index}
use Rattle.place_reasons.specs.Firsts.{or_first, first_some}
use Rattle.place_reasons.specs.Reasons.{Site, pc_at, label_at, pair_at, run_told, index_told, told_in, own_told}
use Rattle.place_reasons.specs.Reasons.{block_told, method_told, site_of, id_of, exprs_of, own_use, used_inside, used_in, used_by}
use Rattle.place_reasons.specs.Search.{told_pair}
use Rattle.place_reasons.proofs.FirstPairs.{is_pair}

abbrev AreWithin : Option Told → Type 0
AreWithin None = ⊤
AreWithin (Some told) = IsTrait (told_pair told)

or_within : (first second : Option Told) → AreWithin first → AreWithin second → AreWithin (or_first first second)
or_within None second one other = other
or_within (Some told) second one other = one

some_within : {X : Type 0} (make : X → Option Told) (xs : List X) → ((x : X) → AreWithin (make x)) →
    AreWithin (first_some make xs)
some_within make [] each = tt
some_within make (x ∷ xs) each = or_within (make x) (first_some make xs) (each x) (some_within make xs each)

if_within : (test : Bool) (found : Option Told) → AreWithin found → AreWithin (if test then found else None)
if_within true found is = is
if_within false found is = tt

made_within : (make : Trait → Told) (found : Option Trait) → ((pair : Trait) → told_pair (make pair) ≡ pair) →
    ((pair : Trait) → found ≡ Some pair → IsTrait pair) → AreWithin (option_map make found)
made_within make None same each = tt
made_within make (Some pair) same each = subst IsTrait (sym (same pair)) (each pair refl)

pair_within : (site : Site) → IsDeclared site.principals → (label : Label) (pair : Trait) →
    pair_at site label ≡ Some pair → IsTrait pair
pair_within site declared label pair is = is_pair site.principals declared label site.host pair is

run_within : (site : Site) → IsDeclared site.principals → (wanted : FieldId) (here : StmtId) (field : FieldId) →
    AreWithin (run_told site wanted here field)
run_within site declared wanted here field =
    if_within _ (option_map (λ pair. Read pair here) (pair_at site (pc_at site here)))
    (made_within (λ pair. Read pair here) (pair_at site (pc_at site here)) (λ pair. refl)
    (pair_within site declared (pc_at site here)))

index_within : (site : Site) → IsDeclared site.principals → (wanted : FieldId) (here : StmtId) (field : FieldId)
    (index : ExprTree) → AreWithin (index_told site wanted here field index)
index_within site declared wanted here field index =
    if_within _ (option_map (λ pair. Index pair here) (pair_at site (label_at site here index)))
    (made_within (λ pair. Index pair here) (pair_at site (label_at site here index)) (λ pair. refl)
    (pair_within site declared (label_at site here index)))

expr_within : (site : Site) → IsDeclared site.principals → (wanted : FieldId) (here : StmtId) (value : ExprTree) →
    AreWithin (told_in site wanted here value)
expr_within site declared wanted here (number value) = tt
expr_within site declared wanted here (local x) = tt
expr_within site declared wanted here (scalar field) = run_within site declared wanted here field
expr_within site declared wanted here (element field index) =
    or_within (told_in site wanted here index)
    (or_first (run_told site wanted here field) (index_told site wanted here field index))
    (expr_within site declared wanted here index)
    (or_within (run_told site wanted here field) (index_told site wanted here field index)
    (run_within site declared wanted here field) (index_within site declared wanted here field index))
expr_within site declared wanted here (inverted operand) = expr_within site declared wanted here operand
expr_within site declared wanted here (negated operand) = expr_within site declared wanted here operand
expr_within site declared wanted here (binary operator left right) =
    or_within (told_in site wanted here left) (told_in site wanted here right)
    (expr_within site declared wanted here left) (expr_within site declared wanted here right)
expr_within site declared wanted here (declassified operand label) = expr_within site declared wanted here operand
expr_within site declared wanted here (endorsed operand label) = expr_within site declared wanted here operand

own_within : (site : Site) → IsDeclared site.principals → (wanted : FieldId) (block : BlockTree) →
    AreWithin (own_told site wanted block)
own_within site declared wanted block =
    some_within (told_in site wanted (id_of block)) (exprs_of block) (expr_within site declared wanted (id_of block))

block_within : (site : Site) → IsDeclared site.principals → (wanted : FieldId) (block : BlockTree) →
    AreWithin (block_told site wanted block)
block_within site declared wanted done = tt
block_within site declared wanted (set_local heading x value rest) =
    or_within (own_told site wanted (set_local heading x value rest)) (block_told site wanted rest)
    (own_within site declared wanted (set_local heading x value rest)) (block_within site declared wanted rest)
block_within site declared wanted (set_field heading field value rest) =
    or_within (own_told site wanted (set_field heading field value rest)) (block_told site wanted rest)
    (own_within site declared wanted (set_field heading field value rest)) (block_within site declared wanted rest)
block_within site declared wanted (set_element heading field index value rest) =
    or_within (own_told site wanted (set_element heading field index value rest)) (block_told site wanted rest)
    (own_within site declared wanted (set_element heading field index value rest))
    (block_within site declared wanted rest)
block_within site declared wanted (branch heading guard first second rest) =
    or_within (own_told site wanted (branch heading guard first second rest)) _
    (own_within site declared wanted (branch heading guard first second rest))
    (or_within (block_told site wanted first) _ (block_within site declared wanted first)
    (or_within (block_told site wanted second) (block_told site wanted rest) (block_within site declared wanted second)
    (block_within site declared wanted rest)))
block_within site declared wanted (loop heading guard body rest) =
    or_within (own_told site wanted (loop heading guard body rest)) _
    (own_within site declared wanted (loop heading guard body rest))
    (or_within (block_told site wanted body) (block_told site wanted rest) (block_within site declared wanted body)
    (block_within site declared wanted rest))
block_within site declared wanted (call heading place method arguments into rest) =
    or_within (own_told site wanted (call heading place method arguments into rest)) (block_told site wanted rest)
    (own_within site declared wanted (call heading place method arguments into rest))
    (block_within site declared wanted rest)
block_within site declared wanted (give_back heading value rest) =
    or_within (own_told site wanted (give_back heading value rest)) (block_told site wanted rest)
    (own_within site declared wanted (give_back heading value rest)) (block_within site declared wanted rest)

pub told_within : (principals : Declared) → IsDeclared principals → (labelled : Labelled) (host : Label)
    (field : FieldId) (methods : List Method) (told : Told) →
    first_some (λ method. method_told principals labelled host field (method_tree method)) methods ≡ Some told →
    IsTrait (told_pair told)
told_within principals declared labelled host field methods told is =
    subst AreWithin is (some_within (λ method. method_told principals labelled host field (method_tree method)) methods
    (λ method. block_within (site_of principals labelled host (method_tree method)) declared field
    (method_tree method).body))

-- ---- what is used

abbrev AreTraits : Option Trait → Type 0
AreTraits None = ⊤
AreTraits (Some pair) = IsTrait pair

or_traits : (first second : Option Trait) → AreTraits first → AreTraits second → AreTraits (or_first first second)
or_traits None second one other = other
or_traits (Some pair) second one other = one

some_traits : {X : Type 0} (make : X → Option Trait) (xs : List X) → ((x : X) → AreTraits (make x)) →
    AreTraits (first_some make xs)
some_traits make [] each = tt
some_traits make (x ∷ xs) each = or_traits (make x) (first_some make xs) (each x) (some_traits make xs each)

found_trait : (found : Option Trait) → ((pair : Trait) → found ≡ Some pair → IsTrait pair) → AreTraits found
found_trait None each = tt
found_trait (Some pair) each = each pair refl

own_trait : (site : Site) → IsDeclared site.principals → (here : StmtId) (value : ExprTree) →
    AreTraits (own_use site here value)
unfolding own_use
own_trait site declared here value =
    found_trait (own_use site here value) (pair_within site declared (label_at site here value))

both_traits : (site : Site) → IsDeclared site.principals → (here : StmtId) (value : ExprTree) →
    AreTraits (used_inside site here value) → AreTraits (used_in site here value)
both_traits site declared here value inside =
    or_traits (used_inside site here value) (own_use site here value) inside (own_trait site declared here value)

inside_traits : (site : Site) → IsDeclared site.principals → (here : StmtId) (value : ExprTree) →
    AreTraits (used_inside site here value)
inside_traits site declared here (number value) = tt
inside_traits site declared here (local x) = tt
inside_traits site declared here (scalar field) = tt
inside_traits site declared here (element field index) =
    both_traits site declared here index (inside_traits site declared here index)
inside_traits site declared here (inverted operand) =
    both_traits site declared here operand (inside_traits site declared here operand)
inside_traits site declared here (negated operand) =
    both_traits site declared here operand (inside_traits site declared here operand)
inside_traits site declared here (binary operator left right) =
    or_traits (used_in site here left) (used_in site here right)
    (both_traits site declared here left (inside_traits site declared here left))
    (both_traits site declared here right (inside_traits site declared here right))
inside_traits site declared here (declassified operand label) =
    both_traits site declared here operand (inside_traits site declared here operand)
inside_traits site declared here (endorsed operand label) =
    both_traits site declared here operand (inside_traits site declared here operand)

pub use_within : (site : Site) → IsDeclared site.principals → (here : StmtId) (values : List ExprTree) (pair : Trait) →
    used_by site here values ≡ Some pair → IsTrait pair
use_within site declared here values pair is =
    subst AreTraits is (some_traits (used_in site here) values
    (λ value. both_traits site declared here value (inside_traits site declared here value)))
