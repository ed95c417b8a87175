-- What fails of a constraint, and that it holds where nothing fails.
use Rattle.std.proofs.Common.{◌≡◌, ◌≢◌, ◌==◌, inl, inr, IsTrue, ℕ, zero, suc, ◌+◌, ◌<◌, ◌≤◌, Bool, true, not}
use Rattle.std.proofs.Common.{List, [], ◌∷◌, length, All, Any, filter, flat_map, filter_map, get_or, refl, sym, ap}
use Rattle.std.proofs.Common.{◌∙◌, subst, arith}
use Rattle.std.specs.Prelude.{Option, Some, None, IsSome, is_some, unwrap_or}
use Rattle.std.specs.List.{cons_option, list_any, range_with_len}
use Rattle.std.specs.Option.{option_map}
use Rattle.std.proofs.lemmas.Bool.{cases_Bool, both_ways, and_parts, and_from, eqb-true, eq-eqb, not-true}
use Rattle.std.proofs.lemmas.Bool.{not_from_false, false_from_ne_true, false≢true}
use Rattle.std.proofs.lemmas.List.Concat.{flat_map-cons}
use Rattle.std.proofs.lemmas.List.Elements.{All-filter, All-append, All-nil, All-cons, All-head, All-tail, All-map}
use Rattle.std.proofs.lemmas.List.Folds.{Any-from_list_any, list_any-from_Any, list_any_at}
use Rattle.js_base.specs.declared.ids.PrincipalId.{PrincipalId}
use Rattle.js_base.specs.declared.limits.TheConstants.{PRINCIPALS}
use Rattle.principals.specs.ActsFor.{Declared, ActsFor, AreDeclared, IsDeclared, IsReader, outsider}
use Rattle.label_lattice.specs.declared.label.Label.{Label}
use Rattle.label_lattice.specs.Label.{Trusts, PolicyForbids}
use Rattle.label_lattice.specs.Over.{IsLabelOver}
use Rattle.label_lattice.specs.Printed.{forbids, is_trusted_by}
use Rattle.jif_tree.specs.LabelRules.{Constraint, may_release, trusted, may_endorse, may_begin, may_flow, Holds}
use Rattle.label_reasons.specs.declared.reason.Trait.{Trait}
use Rattle.label_reasons.specs.declared.reason.Trait.TheVariants.{Keeps, Distrusts}
use Rattle.label_reasons.specs.declared.reason.Cause.{Cause}
use Rattle.label_reasons.specs.declared.reason.Reason.{Reason}
use Rattle.label_reasons.specs.Traits.{has, TraitIsLacking, IsTrait, IsDeclaredTrait}
use Rattle.label_reasons.specs.Listed.{acts_for, declared_numbers, readers, pairs_of, all_pairs, all_distrusts, failing}
use Rattle.label_reasons.specs.Listed.{is_of_another, unless_none, goes_without_saying, listed_pairs, listed}
use Rattle.label_reasons.specs.Asks.{Ask}
use Rattle.label_reasons.specs.Reasons.{fails, may_tell, release_fails, trust_fails, endorse_fails, fails_in}
use Rattle.label_reasons.specs.Reasons.{asked_label}
use Rattle.label_reasons.specs.Reasons.{listed_in, reason_of, label_reasons, FailsIn}
use Rattle.label_reasons.specs.Reasons.{IsLabelReason, IsTold, IsConstraintOver}
use Rattle.label_reasons.proofs.TraitTests.{AreTrusted, forbids_is, not_both, fails_flow, flows_else}
use Rattle.label_reasons.proofs.ExpressionCauses.{is_trait}
use Rattle.label_reasons.proofs.ActsTests.{ActsLaws, acts_tells}
use Rattle.label_reasons.proofs.Listing.{cons_some, unless_none_passes, listed_passes, none_listed, pair_fails}
use Rattle.label_reasons.proofs.Listing.{distrust_fails}

-- ---- what is listed is of declared principals

pub all_flat : {X Y : Type 0} (P : Y → Type 0) (f : X → List Y) (xs : List X) → All (λ x. All P (f x)) xs →
    All P (flat_map f xs)
all_flat P f [] all = All-nil P
all_flat P f (x ∷ xs) all =
    rw (flat_map-cons f x xs)
    (All-append P (f x) (flat_map f xs) (All-head (λ one. All P (f one)) x xs all)
    (all_flat P f xs (All-tail (λ one. All P (f one)) x xs all)))

pub all_range : (P : ℕ → Type 0) (from count : ℕ) → ((k : ℕ) → k < from + count → P k) →
    All P (range_with_len from count)
all_range P from zero each = All-nil P
all_range P from (suc count) each =
    All-cons P from (range_with_len (from + 1) count) (each from (omega arith))
    (all_range P (from + 1) count (λ k lt. each k (omega (arith, lt))))

listed_all : (P : Trait → Type 0) (principals : Declared) (test : Trait → Bool) → All P (all_pairs principals) →
    All P (all_distrusts principals) → All P (listed principals test)
listed_all P principals test pairs distrusts =
    let kept = filter test (all_pairs principals) in
    let others = filter (is_of_another principals) kept in
    let pass : All P kept = All-filter test P (all_pairs principals) pairs in
    All-append P (listed_pairs principals kept) (filter test (all_distrusts principals))
    (All-filter (λ pair. not (goes_without_saying (unless_none others kept) pair)) P (unless_none others kept)
    (unless_none_passes P others kept (All-filter (is_of_another principals) P kept pass) pass))
    (All-filter test P (all_distrusts principals) distrusts)

pub listed_within : (principals : Declared) → IsDeclared principals → (test : Trait → Bool) →
    All (IsDeclaredTrait principals) (listed principals test)
listed_within principals declared test = listed_all P principals test
    (all_flat P (pairs_of principals) (declared_numbers principals)
    (all_range (λ owner. All P (pairs_of principals owner)) 0 (length principals.names)
    (λ owner owner_lt. All-map P (λ reader. Keeps owner reader) (readers principals)
    (All-append (λ reader. P (Keeps owner reader)) (declared_numbers principals) (outsider ∷ [])
    (all_range (λ reader. P (Keeps owner reader)) 0 (length principals.names)
    (λ reader lt. (omega (arith, owner_lt, few), omega (arith, lt, few))))
    (All-cons (λ reader. P (Keeps owner reader)) outsider [] (omega (arith, owner_lt, few), omega arith)
    (All-nil (λ reader. P (Keeps owner reader))))))))
    (All-map P (λ principal. Distrusts principal) (declared_numbers principals)
    (all_range (λ principal. P (Distrusts principal)) 0 (length principals.names)
    (λ principal lt. (omega (arith, lt, few), omega (arith, lt)))))
  where
    P : Trait → Type 0
    P = IsDeclaredTrait principals

    few : length principals.names ≤ PRINCIPALS
    few = declared.names.few

-- ---- what the tests tell

fails_is : (trait : Trait) (from to : Label) → fails trait from to ≡ true → TraitIsLacking trait from to
fails_is trait from to is =
    let both = and_parts (has trait from) (not (has trait to)) is in
    (both.0, λ also. not_both (has trait to) also both.1)

is_fails : (trait : Trait) (from to : Label) → TraitIsLacking trait from to → fails trait from to ≡ true
is_fails trait from to is =
    and_from (has trait from) (not (has trait to)) is.0
    (not_from_false (has trait to) (false_from_ne_true (has trait to) is.1))

any_weaker : {X : Type 0} (P Q : X → Type 0) (xs : List X) → ((x : X) → P x → Q x) → Any P xs → Any Q xs
any_weaker P Q xs weaker (k, x, lt, read, holds) = (k, x, lt, read, weaker x holds)

-- some member passes a test exactly where some member is as the test tells
some_member : {X : Type 0} (test : X → Bool) (P : X → Type 0) (xs : List X) → ((x : X) → test x ≡ true → P x) →
    list_any test xs ≡ true → Any P xs
some_member test P xs tells is = any_weaker (λ x. test x ≡ true) P xs tells (Any-from_list_any test xs is)

no_member : {X : Type 0} (test : X → Bool) (P : X → Type 0) (xs : List X) → ((x : X) → P x → test x ≡ true) →
    not (list_any test xs) ≡ true → ¬ Any P xs
no_member test P xs tells is some =
    both_ways (list_any test xs) (not-true (list_any test xs) is)
    (list_any-from_Any test xs (any_weaker P (λ x. test x ≡ true) xs tells some))

tell : (principals : Declared) → ActsLaws principals → (owner reader : ℕ) (member : PrincipalId) →
    PolicyForbids principals member [] owner reader → may_tell principals owner reader member ≡ true
tell principals laws owner reader member (acts, out) =
    and_from (acts_for principals member.0 owner) (not (acts_for principals reader member.0))
    ((acts_tells principals laws member.0 owner).1 acts)
    (not_from_false (acts_for principals reader member.0)
    (false_from_ne_true (acts_for principals reader member.0)
    (λ is. out.not_owner ((acts_tells principals laws reader member.0).0 is))))

forbidden : (principals : Declared) → ActsLaws principals → (owner reader : ℕ) → IsReader principals reader →
    (member : PrincipalId) → may_tell principals owner reader member ≡ true →
    PolicyForbids principals member [] owner reader
forbidden principals laws owner reader is_reader member is =
    let both = and_parts (acts_for principals member.0 owner) (not (acts_for principals reader member.0)) is in (
      (acts_tells principals laws member.0 owner).0 both.0,
      record {
        is_reader = is_reader;
        not_owner = λ acts. both_ways (acts_for principals reader member.0)
            (not-true (acts_for principals reader member.0) both.1)
            ((acts_tells principals laws reader member.0).1 acts);
        not_named = All-nil (λ named. ¬ ActsFor principals reader named.0);
      },
    )

-- what a test finds fails
pub fails_in_is : AreTrusted → (principals : Declared) → ActsLaws principals → (constraint : Constraint)
    (trait : Trait) → fails_in principals constraint trait ≡ true → FailsIn principals constraint trait
fails_in_is tells principals laws (may_release authority from to) (Keeps owner reader) is =
    let both = and_parts (fails (Keeps owner reader) from to)
    (not (list_any (may_tell principals owner reader) authority)) is in (
      fails_is (Keeps owner reader) from to both.0,
      no_member (may_tell principals owner reader) (λ member. PolicyForbids principals member [] owner reader) authority
          (tell principals laws owner reader) both.1,
    )
fails_in_is tells principals laws (may_release authority from to) (Distrusts principal) is = false≢true is
fails_in_is tells principals laws (trusted authority pc) (Keeps owner reader) is = false≢true is
fails_in_is tells principals laws (trusted authority pc) (Distrusts principal) is =
    let both = and_parts (list_any (λ member. member.0 == principal) authority) (has (Distrusts principal) pc) is in (
      some_member (λ member. member.0 == principal) (λ member. member.0 ≡ principal) authority
          (λ member. eqb-true member.0 principal) both.0,
      λ trusts. not_both (is_trusted_by pc principal) ((tells pc principal).1 trusts) both.1,
    )
fails_in_is tells principals laws (may_endorse authority from to) (Keeps owner reader) is = false≢true is
fails_in_is tells principals laws (may_endorse authority from to) (Distrusts principal) is =
    let test : PrincipalId → Bool = λ member. acts_for principals member.0 principal in
    let both = and_parts (fails (Distrusts principal) from to) (not (list_any test authority)) is in (
      fails_is (Distrusts principal) from to both.0,
      no_member test (λ member. ActsFor principals member.0 principal) authority
          (λ member. (acts_tells principals laws member.0 principal).1) both.1,
    )
fails_in_is tells principals laws (may_begin pc begin) trait is = fails_is trait pc begin is
fails_in_is tells principals laws (may_flow from to) trait is = fails_is trait from to is

-- and is held against the label that is asked about
pub asked_has : (principals : Declared) (constraint : Constraint) (trait : Trait) →
    fails_in principals constraint trait ≡ true → IsTrue (has trait (asked_label constraint))
asked_has principals (may_release authority from to) (Keeps owner reader) is =
    (fails_is (Keeps owner reader) from to (and_parts (fails (Keeps owner reader) from to)
    (not (list_any (may_tell principals owner reader) authority)) is).0).0
asked_has principals (may_release authority from to) (Distrusts principal) is = absurd (false≢true is)
asked_has principals (trusted authority pc) (Keeps owner reader) is = absurd (false≢true is)
asked_has principals (trusted authority pc) (Distrusts principal) is =
    (and_parts (list_any (λ member. member.0 == principal) authority) (has (Distrusts principal) pc) is).1
asked_has principals (may_endorse authority from to) (Keeps owner reader) is = absurd (false≢true is)
asked_has principals (may_endorse authority from to) (Distrusts principal) is =
    (fails_is (Distrusts principal) from to (and_parts (fails (Distrusts principal) from to)
    (not (list_any (λ member. acts_for principals member.0 principal) authority)) is).0).0
asked_has principals (may_begin pc begin) trait is = (fails_is trait pc begin is).0
asked_has principals (may_flow from to) trait is = (fails_is trait from to is).0

-- ---- where something fails, the constraint does not hold

pub denies : AreTrusted → (principals : Declared) (constraint : Constraint) (trait : Trait) →
    IsDeclaredTrait principals trait → FailsIn principals constraint trait → ¬ Holds principals constraint
denies tells principals (may_release authority from to) (Keeps owner reader) within is holds =
    elim (holds owner reader within.0 within.1 ((forbids_is from owner reader).0 is.0.0)) [
      | inl also ↦ is.0.1 ((forbids_is to owner reader).1 also)
      | inr some ↦ is.1 some
    ]
denies tells principals (may_release authority from to) (Distrusts principal) within is holds = is
denies tells principals (trusted authority pc) (Keeps owner reader) within is holds = is
denies tells principals (trusted authority pc) (Distrusts principal) within is holds =
    let found = is.0 in
    let trusts : Trusts pc found.1.0 =
    let P : PrincipalId → Type 0 = λ member. Trusts pc member.0 in
    subst P found.3 (holds found.0 found.1 found.2) in
    let Q : ℕ → Type 0 = λ one. Trusts pc one in
    is.1 (subst Q found.4 trusts)
denies tells principals (may_endorse authority from to) (Keeps owner reader) within is holds = is
denies tells principals (may_endorse authority from to) (Distrusts principal) within is holds =
    elim (cases_Bool (is_trusted_by to principal)) [
      | inl trusts ↦ elim (holds principal within.0 ((tells to principal).0 trusts)) [
        | inl also ↦ not_both (is_trusted_by from principal) ((tells from principal).1 also) is.0.0
        | inr some ↦ is.1 some
      ]
      | inr lacks ↦ is.0.1 (not_from_false (is_trusted_by to principal) lacks)
    ]
denies tells principals (may_begin pc begin) trait within is holds =
    fails_flow tells trait pc begin (is_trait principals trait within) is holds
denies tells principals (may_flow from to) trait within is holds =
    fails_flow tells trait from to (is_trait principals trait within) is holds

-- ---- where nothing fails, it holds

flow_else : AreTrusted → (principals : Declared) (from to : Label) → IsLabelOver principals from →
    IsLabelOver principals to → failing principals (λ trait. fails trait from to) ≡ [] → (trait : Trait) →
    IsTrait trait → ¬ TraitIsLacking trait from to
flow_else tells principals from to one other none (Keeps owner reader) within is =
    let held = (forbids_is from owner reader).0 is.0 in
    pair_fails principals (λ trait. fails trait from to) owner reader
    (one.forbids.owners owner reader within.0 within.1 held) (one.forbids.readers owner reader within.0 within.1 held)
    (is_fails (Keeps owner reader) from to is) none
flow_else tells principals from to one other none (Distrusts principal) within is =
    elim (cases_Bool (is_trusted_by to principal)) [
      | inl trusts ↦ distrust_fails principals (λ trait. fails trait from to) principal
          (other.trusts.declared principal within ((tells to principal).0 trusts))
          (is_fails (Distrusts principal) from to is) none
      | inr lacks ↦ is.1 (not_from_false (is_trusted_by to principal) lacks)
    ]

release_else : (principals : Declared) → ActsLaws principals → (authority : List PrincipalId) (from to : Label) →
    IsLabelOver principals from → failing principals (release_fails principals authority from to) ≡ [] →
    Holds principals (may_release authority from to)
release_else principals laws authority from to one none owner reader owner_in reader_in held =
    elim (cases_Bool (forbids to owner reader)) [
      | inl also ↦ inl ((forbids_is to owner reader).0 also)
      | inr free ↦ elim (cases_Bool (list_any (may_tell principals owner reader) authority)) [
        | inl some ↦ inr (some_member (may_tell principals owner reader)
            (λ member. PolicyForbids principals member [] owner reader) authority
            (forbidden principals laws owner reader is_reader) some)
        | inr nobody ↦ absurd (pair_fails principals (release_fails principals authority from to) owner reader
            (one.forbids.owners owner reader owner_in reader_in held) is_reader
            (and_from (fails (Keeps owner reader) from to) (not (list_any (may_tell principals owner reader) authority))
            (and_from (forbids from owner reader) (not (forbids to owner reader))
            ((forbids_is from owner reader).1 held)
            (not_from_false (forbids to owner reader) free))
            (not_from_false (list_any (may_tell principals owner reader) authority) nobody)) none)
      ]
    ]
  where
    is_reader : IsReader principals reader
    is_reader = one.forbids.readers owner reader owner_in reader_in held

trust_else : AreTrusted → (principals : Declared) (authority : List PrincipalId) (pc : Label) →
    AreDeclared principals authority → failing principals (trust_fails authority pc) ≡ [] →
    Holds principals (trusted authority pc)
trust_else tells principals authority pc declared none place other lt =
    let member = get_or authority place other in
    elim (cases_Bool (is_trusted_by pc member.0)) [
      | inl is ↦ (tells pc member.0).0 is
      | inr lacks ↦ absurd (distrust_fails principals (trust_fails authority pc) member.0 (declared place other lt)
          (and_from (list_any (λ one. one.0 == member.0) authority) (has (Distrusts member.0) pc)
          (list_any_at (λ one. one.0 == member.0) authority place other lt (eq-eqb member.0 member.0 refl))
          (not_from_false (is_trusted_by pc member.0) lacks)) none)
    ]

endorse_else : AreTrusted → (principals : Declared) → ActsLaws principals → (authority : List PrincipalId)
    (from to : Label) → IsLabelOver principals to →
    failing principals (endorse_fails principals authority from to) ≡ [] →
    Holds principals (may_endorse authority from to)
endorse_else tells principals laws authority from to other none principal within trusts =
    elim (cases_Bool (is_trusted_by from principal)) [
      | inl is ↦ inl ((tells from principal).0 is)
      | inr lacks ↦ elim (cases_Bool (list_any test authority)) [
        | inl some ↦ inr (some_member test (λ member. ActsFor principals member.0 principal) authority
            (λ member. (acts_tells principals laws member.0 principal).0) some)
        | inr nobody ↦ absurd (distrust_fails principals (endorse_fails principals authority from to) principal
            (other.trusts.declared principal within trusts)
            (and_from (fails (Distrusts principal) from to) (not (list_any test authority))
            (is_fails (Distrusts principal) from to (
              not_from_false (is_trusted_by from principal) lacks,
              not_both (is_trusted_by to principal) ((tells to principal).1 trusts),
            )) (not_from_false (list_any test authority) nobody)) none)
      ]
    ]
  where
    test : PrincipalId → Bool
    test member = acts_for principals member.0 principal

pub holds_else : AreTrusted → (principals : Declared) → ActsLaws principals → (constraint : Constraint) →
    IsConstraintOver principals constraint → failing principals (fails_in principals constraint) ≡ [] →
    Holds principals constraint
holds_else tells principals laws (may_release authority from to) over none =
    release_else principals laws authority from to over.1 none
holds_else tells principals laws (trusted authority pc) over none = trust_else tells principals authority pc over none
holds_else tells principals laws (may_endorse authority from to) over none =
    endorse_else tells principals laws authority from to over.1 none
holds_else tells principals laws (may_begin pc begin) over none =
    flows_else tells pc begin (flow_else tells principals pc begin over.0 over.1 none)
holds_else tells principals laws (may_flow from to) over none =
    flows_else tells from to (flow_else tells principals from to over.0 over.1 none)

-- ---- reasons

-- what a function gives of items, where each item has what it asks for
made_of : {X Y : Type 0} (P : X → Type 0) (Q : Y → Type 0) (f : X → Option Y) →
    ((x : X) (y : Y) → P x → f x ≡ Some y → Q y) → (xs : List X) → All P xs → All Q (filter_map f xs)
made_of P Q f makes [] all = All-nil Q
made_of {X} {Y} P Q f makes (x ∷ xs) all = by (made_of P Q f makes xs (All-tail P x xs all)) (f x) refl
  where
    by : All Q (filter_map f xs) → (found : Option Y) → f x ≡ found → All Q (filter_map f (x ∷ xs))
    by rest None is = rw is rest
    by rest (Some y) is = rw is (All-cons Q y (filter_map f xs) (makes x y (All-head P x xs all) is) rest)

-- a list of which nothing is made, though something is made of each item
none_made : {X Y : Type 0} (P : X → Type 0) (f : X → Option Y) → ((x : X) → P x → IsSome (f x)) → (xs : List X) →
    All P xs → filter_map f xs ≡ [] → xs ≡ []
none_made P f makes [] all none = refl
none_made {X} {Y} P f makes (x ∷ xs) all none = by (f x) refl none
  where
    by : (found : Option Y) → f x ≡ found → filter_map f (x ∷ xs) ≡ [] → x ∷ xs ≡ []
    by None is none =
        let Q : Option Y → Type 0 = λ found. IsSome found in
        absurd (false≢true (subst Q is (makes x (All-head P x xs all))))
    by (Some y) is none =
        let R : Option Y → Type 0 = λ found. cons_option found (filter_map f xs) ≡ [] in
        absurd (cons_some y (filter_map f xs) (subst R is none))

all_and : {X : Type 0} (P Q : X → Type 0) (xs : List X) → All P xs → All Q xs → All (λ x. P x × Q x) xs
all_and P Q xs one other k d lt = (one k d lt, other k d lt)

-- what is known of what is listed for a constraint
abbrev IsListedFor : Declared → Constraint → Trait → Type 0
IsListedFor principals constraint trait =
    (fails_in principals constraint trait ≡ true) × IsDeclaredTrait principals trait

listed_for : (principals : Declared) → IsDeclared principals → (constraint : Constraint) →
    All (IsListedFor principals constraint) (listed principals (fails_in principals constraint))
listed_for principals declared constraint =
    let test = fails_in principals constraint in
    all_and (λ trait. test trait ≡ true) (IsDeclaredTrait principals) (listed principals test)
    (listed_passes principals test) (listed_within principals declared test)

caused : (trait : Trait) (cause : Trait → Option Cause) (reason : Reason) → reason_of cause trait ≡ Some reason →
    (reason.held ≡ trait) × (cause trait ≡ Some reason.cause)
caused trait cause reason = by (cause trait) refl
  where
    made : Cause → Reason
    made found = record { held = trait; cause = found }

    by : (found : Option Cause) → cause trait ≡ found → reason_of cause trait ≡ Some reason →
        (reason.held ≡ trait) × (cause trait ≡ Some reason.cause)
    by None is same =
        let Q : Option Cause → Type 0 = λ one. option_map made one ≡ Some reason in
        absurd (false≢true (ap is_some (subst Q is same)))
    by (Some found) is same =
        let Q : Option Cause → Type 0 = λ one. option_map made one ≡ Some reason in
        let read : Option Reason → Reason = λ one. unwrap_or one reason in
        let alike : made found ≡ reason = ap read (subst Q is same) in
        (ap (λ one. one.held) (sym alike), is ∙ ap (λ one. Some one.cause) alike)

pub reasons_true : AreTrusted → (principals : Declared) → IsDeclared principals → ActsLaws principals → (ask : Ask) →
    All (IsLabelReason principals ask) (label_reasons principals ask)
reasons_true tells principals declared laws ask =
    made_of (IsListedFor principals ask.constraint) (IsLabelReason principals ask) (reason_of ask.cause) makes
    (listed principals (fails_in principals ask.constraint)) (listed_for principals declared ask.constraint)
  where
    makes : (trait : Trait) (reason : Reason) → IsListedFor principals ask.constraint trait →
        reason_of ask.cause trait ≡ Some reason → IsLabelReason principals ask reason
    makes trait reason (fails, within) is =
        let made = caused trait ask.cause reason is in
        let P : Trait → Type 0 = λ one. IsDeclaredTrait principals one in
        let Q : Trait → Type 0 = λ one. FailsIn principals ask.constraint one in
        let R : Trait → Type 0 = λ one. ask.cause one ≡ Some reason.cause in
        record {
          within = subst P (sym made.0) within;
          fails = subst Q (sym made.0) (fails_in_is tells principals laws ask.constraint trait fails);
          cause = subst R (sym made.0) made.1;
        }

mapped_some : {X Y : Type 0} (f : X → Y) (found : Option X) → IsSome found → IsSome (option_map f found)
mapped_some f None is = is
mapped_some f (Some x) is = is

pub reasons_due : AreTrusted → (principals : Declared) → IsDeclared principals → ActsLaws principals → (ask : Ask) →
    IsConstraintOver principals ask.constraint → IsTold principals ask → ¬ Holds principals ask.constraint →
    label_reasons principals ask ≢ []
reasons_due tells principals declared laws ask over told fails none =
    fails (holds_else tells principals laws ask.constraint over
    (none_listed principals (fails_in principals ask.constraint)
    (none_made (IsListedFor principals ask.constraint) (reason_of ask.cause)
    (λ trait is. mapped_some (λ found. record { held = trait; cause = found }) (ask.cause trait)
    ((told trait is.1).1 (asked_has principals ask.constraint trait is.0)))
    (listed principals (fails_in principals ask.constraint)) (listed_for principals declared ask.constraint) none)))

-- and nothing is listed where it holds
pub nothing_listed : AreTrusted → (principals : Declared) → IsDeclared principals → ActsLaws principals → (ask : Ask) →
    Holds principals ask.constraint → listed_in principals ask ≡ []
nothing_listed tells principals declared laws ask holds =
    by (listed_in principals ask) (listed_for principals declared ask.constraint)
  where
    by : (traits : List Trait) → All (IsListedFor principals ask.constraint) traits → traits ≡ []
    by [] all = refl
    by (trait ∷ traits) all =
        let first = All-head (IsListedFor principals ask.constraint) trait traits all in
        absurd (denies tells principals ask.constraint trait first.1
        (fails_in_is tells principals laws ask.constraint trait first.0) holds)
